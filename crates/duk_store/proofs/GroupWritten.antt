-- What is written of a group, one record after the other.
use Rattle.std.proofs.Common.{◌≡◌, ◌⊎◌, inl, inr, ℕ, zero, suc, ◌+◌, ◌-◌, ◌*◌, ◌<◌, ◌≤◌, List, [], ◌∷◌, Some, length, get_or, sym, ◌∙◌, ap, subst, arith}
use Rattle.std.proofs.lemmas.Bool.{cases_eq, cases_lt}
use Rattle.std.specs.List.{slice_get}
use Rattle.duk_store.specs.Disk.{DiffersWithin, DiskState, LeavesChanged, written}
use Rattle.duk_store.specs.Format.{FormatMeaning, IsFormat}
use Rattle.duk_store.specs.Records.{HasContents, IsOpen, after_gate, gate_of, record_at}
use Rattle.duk_store.specs.inner.Groups.{AreWritten, followers_at}
use Rattle.duk_store.specs.inner.GroupSteps.{AreContentsWritten, IsGroupTorn, IsGroupWritten, IsRecordWritten, LeavesAllButGate, LeavesGates, LeavesOne, MayLeaveChanged}
use Rattle.duk_store.proofs.Places.{next, no_later}
use Rattle.duk_store.proofs.WrittenBytes.{contents_written, gate_written, gates_then, leaves_all_but, leaves_gates, other_record, written_differs}

-- the item at a place is one
same_got : {I : Type 0} (group : List I) (index : ℕ) (item other : I) → slice_get group index ≡ Some item → slice_get group index ≡ Some other → item ≡ other
same_got group index item other one two = cc

pub item_got : {I : Type 0} (group : List I) (index : ℕ) (item : I) → index < length group → item ≡ get_or group index item → slice_get group index ≡ Some item
item_got [] index item less is = absurd (omega (arith, less))
item_got (p ∷ group) zero item less is = ap Some (sym is)
item_got (p ∷ group) (suc index) item less is = item_got group index item (omega (arith, less)) is

-- one more record is written
module _ {I : Type 0} (format : FormatMeaning I) (laws : IsFormat format) (group : List I) (place index : ℕ) (less : index < length group) where
  abbrev long : ℕ
  long = format.record_length

  next_leaves : (x y : List ℕ) → DiffersWithin (long * (place + index) + 1) (long - 1) x y → LeavesGates long place (length group) x y
  next_leaves x y torn = leaves_gates long laws.has_contents (place + index) x y torn place (length group) (omega arith) (omega (arith, less))

  pub next_torn : (old mid new : DiskState) → (old.honest → mid.honest) → MayLeaveChanged (LeavesGates long place (length group)) old mid → LeavesChanged (DiffersWithin (long * (place + index) + 1) (long - 1)) mid new
      → MayLeaveChanged (LeavesGates long place (length group)) old new
  next_torn old mid new honest so_far torn h left could =
      let start = torn (honest h) left could in
      gates_then long place (length group) old.reads start.0 left (so_far h start.0 start.1) (next_leaves start.0 left start.2)

  pub next_written : (identity : ℕ) (item : I) (followers : ℕ) (x y z : List ℕ) → slice_get group index ≡ Some item → followers ≡ followers_at index (length group) → long * (place + length group) ≤ length y
      → IsRecordWritten format identity (place + index) followers item y z → AreContentsWritten format identity index group place x y → AreContentsWritten format identity (index + 1) group place x z
  next_written identity item followers x y z item_is followers_is inside done so_far =
      let whole = laws.whole identity (place + index) followers item done.contents done.says in
      let last = no_later long (place + index + 1) (place + length group) (omega (arith, less)) in
      let ends = next long (place + index) in
      let room : long * (place + index) + long ≤ length y = omega (arith, inside, last, ends) in
      let fits : long * (place + index) + 1 + length done.contents ≤ length y = omega (arith, room, whole) in
      let size : length done.contents ≡ long - 1 = omega (arith, whole) in
      let torn : DiffersWithin (long * (place + index) + 1) (long - 1) y z =
      subst (λ (l : List ℕ). DiffersWithin (long * (place + index) + 1) (long - 1) y l) (sym done.is)
      (subst (λ (n : ℕ). DiffersWithin (long * (place + index) + 1) n y (written y (long * (place + index) + 1) done.contents)) size (written_differs y done.contents (long * (place + index) + 1) fits)) in
      let here : after_gate (record_at long (place + index) z) ≡ done.contents =
      ap (λ (l : List ℕ). after_gate (record_at long (place + index) l)) done.is ∙ contents_written long laws.has_contents (place + index) y done.contents room whole in
      let says : format.says identity (place + index) (followers_at index (length group)) item (after_gate (record_at long (place + index) z)) =
      subst (λ (l : List ℕ). format.says identity (place + index) (followers_at index (length group)) item l) (sym here)
      (subst (λ (f : ℕ). format.says identity (place + index) f item done.contents) followers_is done.says) in
      record {
        leaves = gates_then long place (length group) x y z so_far.leaves (next_leaves y z torn);
        contents = λ k p below is. elim (cases_lt k index) [
          | inl earlier ↦ rw (other_record long laws.has_contents (place + index) y z torn (place + k) (omega (arith, earlier))) (so_far.contents k p earlier is)
          | inr past ↦
              let same : index ≡ k = omega (arith, below, past) in
              let p_is : item ≡ p = same_got group index item p item_is (subst (λ (i : ℕ). slice_get group i ≡ Some p) (sym same) is) in
              subst (λ (q : I). HasContents format identity (place + k) (followers_at k (length group)) q (record_at long (place + k) z)) p_is
              (subst (λ (i : ℕ). HasContents format identity (place + i) (followers_at i (length group)) item (record_at long (place + i) z)) same says)
        ];
      }

-- ---- the gate of the first record

pub gate_opened : (long place : ℕ) (x z : List ℕ) → 2 ≤ long → long * place + 1 ≤ length x → z ≡ written x (long * place) (1 ∷ []) → IsOpen (record_at long place z) × LeavesAllButGate long place x z
gate_opened long place x z some inside z_is = (
  ap (λ (l : List ℕ). gate_of (record_at long place l)) z_is ∙ gate_written long some place x inside,
  leaves_all_but long some place x z (subst (λ (l : List ℕ). DiffersWithin (long * place) 1 x l) (sym z_is) (written_differs x (1 ∷ []) (long * place) inside)),
)

pub gate_may_be_torn : (long place : ℕ) (old new : DiskState) → 2 ≤ long → LeavesOne old → LeavesChanged (DiffersWithin (long * place) 1) old new → MayLeaveChanged (LeavesAllButGate long place) old new
gate_may_be_torn long place old new some one torn h bytes left =
    let start = torn h bytes left in
    let is : start.0 ≡ old.reads = (one h start.0).0 start.1 in
    leaves_all_but long some place old.reads bytes (subst (λ (before : List ℕ). DiffersWithin (long * place) 1 before bytes) is start.2)

module _ {I : Type 0} (format : FormatMeaning I) (identity : ℕ) (group : List I) (place : ℕ) where
  written_still : (count : ℕ) (y z : List ℕ) → LeavesAllButGate format.record_length place y z → AreWritten format identity count group place y → AreWritten format identity count group place z
  written_still count y z all_but written index item less is = elim (cases_eq (place + index) place) [
    | inl first ↦
        let same : after_gate (record_at format.record_length (place + index) z) ≡ after_gate (record_at format.record_length (place + index) y) =
        subst (λ (at : ℕ). after_gate (record_at format.record_length at z) ≡ after_gate (record_at format.record_length at y)) (sym first) all_but.contents in
        subst (λ (l : List ℕ). format.says identity (place + index) (followers_at index (length group)) item l) (sym same) (written index item less is)
    | inr other ↦ rw (all_but.beside (place + index) other) (written index item less is)
  ]

  module _ (x y z : List ℕ) (some : 1 ≤ length group) (contents : AreContentsWritten format identity (length group) group place x y) (all_but : LeavesAllButGate format.record_length place y z) where
    beside : (other : ℕ) → (other < place) ⊎ (place + length group ≤ other) → record_at format.record_length other z ≡ record_at format.record_length other x
    beside other (inl before) = all_but.beside other (omega (arith, before)) ∙ contents.leaves.beside other (inl before)
    beside other (inr after) = all_but.beside other (omega (arith, after, some)) ∙ contents.leaves.beside other (inr after)

    pub group_written : IsOpen (record_at format.record_length place z) → IsGroupWritten format identity group place x z
    group_written is_open = record {
      is_open = is_open;
      contents = written_still (length group) y z all_but contents.contents;
      gates = λ other differs. ap gate_of (all_but.beside other differs) ∙ contents.leaves.gates other;
      beside = beside;
    }

    pub group_torn : IsGroupTorn format identity group place x z
    group_torn = record {
      torn = inr (written_still (length group) y z all_but contents.contents);
      gates = λ other differs. ap gate_of (all_but.beside other differs) ∙ contents.leaves.gates other;
      beside = beside;
    }
