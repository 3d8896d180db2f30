-- What a write leaves of the records of a disk, whole or torn.
use Rattle.std.proofs.Common.{◌≡◌, ◌≢◌, ◌⊎◌, inl, inr, ℕ, ◌+◌, ◌-◌, ◌*◌, ◌<◌, ◌≤◌, List, [], ◌∷◌, ◌++◌, length, get_or, take, drop, refl, sym, ◌∙◌, ap, arith, length-drop}
use Rattle.std.proofs.lemmas.Bool.{cases_lt}
use Rattle.std.proofs.lemmas.Grind.{same_number_lists}
use Rattle.std.proofs.lemmas.List.{drop-drop, drop-take, drop_at, get_or-drop, get_or-take, length-take, length-take-le, places, take_at}
use Rattle.duk_store.specs.Disk.{DiffersWithin, range_of, written}
use Rattle.duk_store.specs.Records.{after_gate, gate_of, record_at}
use Rattle.duk_store.specs.inner.GroupSteps.{LeavesAllButGate, LeavesGates}
use Rattle.duk_store.proofs.Places.{ends, no_later}

-- ranges with the same bytes
range_same : (from count : ℕ) (x y : List ℕ) → length y ≡ length x → ((i : ℕ) → from ≤ i → i < from + count → get_or y i 0 ≡ get_or x i 0) → range_of from count y ≡ range_of from count x
range_same from count x y lengths same =
    let sizes : length (take count (drop from y)) ≡ length (take count (drop from x)) =
    length-take count (drop from y) ∙ omega (arith, length-drop from y, length-drop from x, lengths, length-take count (drop from x)) in
    same_number_lists (take count (drop from y)) (take count (drop from x)) sizes
    (λ k less.
    let below : k < count = omega (arith, less, length-take count (drop from y)) in
    get_or-take count (drop from y) k 0 below ∙ get_or-drop from y k 0 ∙ same (from + k) (omega arith) (omega (arith, below))
    ∙ sym (get_or-take count (drop from x) k 0 below ∙ get_or-drop from x k 0))

-- bytes that are written over others
module _ (x bytes : List ℕ) (at : ℕ) (inside : at + length bytes ≤ length x) where
  length_written : length (written x at bytes) ≡ length x
  length_written = grind (arith, places)

  before_written : (i : ℕ) → i < at → get_or (written x at bytes) i 0 ≡ get_or x i 0
  before_written i less = grind (arith, places)

  after_written : (i : ℕ) → at + length bytes ≤ i → get_or (written x at bytes) i 0 ≡ get_or x i 0
  after_written i past = grind (arith, places)

  pub written_differs : DiffersWithin at (length bytes) x (written x at bytes)
  written_differs = record { same_length = length_written; outside = outside }
    where
      outside : (i : ℕ) → (i < at) ⊎ (at + length bytes ≤ i) → get_or (written x at bytes) i 0 ≡ get_or x i 0
      outside i (inl less) = before_written i less
      outside i (inr past) = after_written i past

  pub written_range : range_of at (length bytes) (written x at bytes) ≡ bytes
  written_range =
      let rest = drop (at + length bytes) x in
      ap (take (length bytes)) (drop_at (take at x) (bytes ++ rest) at (length-take-le at x (omega (arith, inside)))) ∙ take_at bytes rest (length bytes) refl

module _ (long : ℕ) (some : 2 ≤ long) where
  -- the gate of a record, and its contents, as bytes of the disk
  pub gate_is : (place : ℕ) (x : List ℕ) → gate_of (record_at long place x) ≡ get_or x (long * place) 0
  gate_is place x =
      let start : ℕ = long * place in
      let here : start + 0 ≡ start = omega arith in
      get_or-take long (drop start x) 0 0 (omega (arith, some)) ∙ get_or-drop start x 0 0 ∙ ap (λ (i : ℕ). get_or x i 0) here

  pub contents_range : (place : ℕ) (x : List ℕ) → after_gate (record_at long place x) ≡ range_of (long * place + 1) (long - 1) x
  contents_range place x =
      let start : ℕ = long * place in
      let split : long ≡ 1 + (long - 1) = omega (arith, some) in
      ap (λ (k : ℕ). drop 1 (take k (drop start x))) split ∙ drop-take 1 (long - 1) (drop start x) ∙ ap (take (long - 1)) (drop-drop 1 start x)

  -- a write into the contents of one record
  module _ (at : ℕ) (x y : List ℕ) (torn : DiffersWithin (long * at + 1) (long - 1) x y) where
    pub other_record : (other : ℕ) → other ≢ at → record_at long other y ≡ record_at long other x
    other_record other differs = elim (cases_lt other at) [
      | inl before ↦
          let less = ends long other at before in range_same (long * other) long x y torn.same_length (λ i from to. torn.outside i (inl (omega (arith, to, less))))
      | inr after ↦
          let less = ends long at other (omega (arith, after, differs)) in
          range_same (long * other) long x y torn.same_length (λ i from to. torn.outside i (inr (omega (arith, from, less, some))))
    ]

    same_gate : (other : ℕ) → gate_of (record_at long other y) ≡ gate_of (record_at long other x)
    same_gate other = elim (cases_lt at other) [
      | inl after ↦
          let less = ends long at other after in gate_is other y ∙ torn.outside (long * other) (inr (omega (arith, less, some))) ∙ sym (gate_is other x)
      | inr before ↦
          let less = no_later long other at before in gate_is other y ∙ torn.outside (long * other) (inl (omega (arith, less))) ∙ sym (gate_is other x)
    ]

    pub leaves_gates : (place count : ℕ) → place ≤ at → at < place + count → LeavesGates long place count x y
    leaves_gates place count from to = record { same_length = torn.same_length; gates = same_gate; beside = beside }
      where
        beside : (other : ℕ) → (other < place) ⊎ (place + count ≤ other) → record_at long other y ≡ record_at long other x
        beside other (inl before) = other_record other (omega (arith, before, from))
        beside other (inr after) = other_record other (omega (arith, after, to))

  -- a write to a gate
  pub leaves_all_but : (place : ℕ) (x y : List ℕ) → DiffersWithin (long * place) 1 x y → LeavesAllButGate long place x y
  leaves_all_but place x y torn = record {
    same_length = torn.same_length;
    contents = contents_range place y ∙ range_same (long * place + 1) (long - 1) x y torn.same_length (λ i from to. torn.outside i (inr from)) ∙ sym (contents_range place x);
    beside = λ other differs. elim (cases_lt other place) [
      | inl before ↦
          let less = ends long other place before in range_same (long * other) long x y torn.same_length (λ i from to. torn.outside i (inl (omega (arith, to, less))))
      | inr after ↦
          let less = ends long place other (omega (arith, after, differs)) in
          range_same (long * other) long x y torn.same_length (λ i from to. torn.outside i (inr (omega (arith, from, less, some))))
    ];
  }

  -- what is written into a record
  pub contents_written : (at : ℕ) (x bytes : List ℕ) → long * at + long ≤ length x → length bytes + 1 ≡ long → after_gate (record_at long at (written x (long * at + 1) bytes)) ≡ bytes
  contents_written at x bytes inside whole =
      let size : long - 1 ≡ length bytes = omega (arith, whole) in
      contents_range at (written x (long * at + 1) bytes)
      ∙ ap (λ (n : ℕ). range_of (long * at + 1) n (written x (long * at + 1) bytes)) size
      ∙ written_range x bytes (long * at + 1) (omega (arith, inside, whole))

  pub gate_written : (place : ℕ) (x : List ℕ) → long * place + 1 ≤ length x → gate_of (record_at long place (written x (long * place) (1 ∷ []))) ≡ 1
  gate_written place x inside =
      let start : ℕ = long * place in
      get_or-take long (drop start (written x start (1 ∷ []))) 0 0 (omega (arith, some))
      ∙ ap (λ (l : List ℕ). get_or l 0 0) (drop_at (take start x) (1 ∷ drop (start + 1) x) start (length-take-le start x (omega (arith, inside))))

pub gates_stay : (long place count : ℕ) (x : List ℕ) → LeavesGates long place count x x
gates_stay long place count x = record { same_length = refl; gates = λ other. refl; beside = λ other where_it_is. refl }

pub gates_then : (long place count : ℕ) (x y z : List ℕ) → LeavesGates long place count x y → LeavesGates long place count y z → LeavesGates long place count x z
gates_then long place count x y z one two = record {
  same_length = two.same_length ∙ one.same_length;
  gates = λ other. two.gates other ∙ one.gates other;
  beside = λ other outside. two.beside other outside ∙ one.beside other outside;
}
