-- From one frontier to the next, register by register.
use Rattle.std.proofs.Common.{◌≡◌, ◌≢◌, ◌↔◌, ℕ, ◌+◌, ◌<◌, ◌≤◌, ◌^◌, ◌⊎◌, List, [], ◌∷◌, All, AllPairs, Contains, length, refl, sym, ap, ◌∙◌, arith, inl, inr, subst}
use Rattle.std.proofs.lemmas.Nat.{pow_pos}
use Rattle.std.proofs.lemmas.List.{ext_get_or}
use Rattle.std.proofs.lemmas.Bool.{cases_lt, cases_order}
use Rattle.duk_tree.specs.Path.{value_of, path_of, last_place, IsPath, IsUsable}
use Rattle.duk_tree.specs.Next.{ComesAfter}
use Rattle.duk_tree.specs.Frontier.{candidate_at, parent_of, IsInFrontier, IsChild}
use Rattle.duk_tree.specs.Derivation.{step_of, node_key, transaction_key_of}
use Rattle.duk_tree.specs.Serial.{IsIksn, low_bytes}
use Rattle.duk_regs.specs.Registers.{RegisterSet, IsRegisterSet, AreFutureKeysOf, IsKeyOfNode, IsTaken, IsEmptyAt, LeavesEmpty, lowest_place, empty_register, register_at}

-- what the key tree promises
pub record TreeLaws : Type 0 where
  pub usable : (counter : ℕ) → IsUsable counter → (counter < 2 ^ 21) × (1 ≤ length (path_of counter)) × (length (path_of counter) ≤ 10)
  pub value : (counter : ℕ) → counter < 2 ^ 21 → value_of (path_of counter) ≡ counter
  pub places : (counter a b : ℕ) → IsInFrontier counter a → IsInFrontier counter b → last_place (path_of a) ≡ last_place (path_of b) → a ≡ b
  pub moves : (counter next node : ℕ) → IsUsable counter → ComesAfter counter next
      → IsInFrontier next node ↔ ((IsInFrontier counter node × (node ≢ counter)) ⊎ (IsUsable node × IsChild counter node))
  pub child : (counter place : ℕ) → IsUsable counter → length (path_of counter) < 10 → place < last_place (path_of counter)
      → IsUsable (counter + 2 ^ place) × (path_of (counter + 2 ^ place) ≡ place ∷ path_of counter)
  pub child_value : (counter child place : ℕ) → IsUsable counter → IsUsable child → path_of child ≡ place ∷ path_of counter
      → (place < last_place (path_of counter)) × (child ≡ counter + 2 ^ place)

parent_below : (path : List ℕ) → 1 ≤ length path → value_of (parent_of path) < value_of path
parent_below [] some = absurd (omega arith)
parent_below (place ∷ parent) some = omega (arith, pow_pos place)

-- the next number is on the frontier
self_held : TreeLaws → (counter : ℕ) → IsUsable counter → IsInFrontier counter counter
self_held laws counter is_usable =
    let bounds = laws.usable counter is_usable in
    record {
      is_usable = is_usable;
      not_used = omega arith;
      parent_used = omega (arith, parent_below (path_of counter) bounds.1, laws.value counter bounds.0);
    }

-- the key of a child is a step from its parent's
child_key : TreeLaws → (initial : List ℕ) (iksn counter child place : ℕ) → IsUsable counter → path_of child ≡ place ∷ path_of counter
    → transaction_key_of initial iksn child
    ≡ step_of (transaction_key_of initial iksn counter) (low_bytes (record { iksn = iksn; counter = counter + 2 ^ place }))
child_key laws initial iksn counter child place is_usable same =
    let value : value_of (place ∷ path_of counter) ≡ counter + 2 ^ place = omega (arith, laws.value counter (laws.usable counter is_usable).0) in
    ap (node_key initial iksn) same
    ∙ ap (λ n. step_of (node_key initial iksn (path_of counter)) (low_bytes (record { iksn = iksn; counter = n }))) value

-- a child takes the register that is filled for it
child_holds : TreeLaws → (initial : List ℕ) (old new : RegisterSet) (key : List ℕ) → IsUsable old.counter → IsTaken old key new
    → key ≡ transaction_key_of initial old.iksn old.counter
    → (node place : ℕ) → IsUsable node → path_of node ≡ place ∷ path_of old.counter
    → register_at new.registers (lowest_place node) ≡ transaction_key_of initial new.iksn node
child_holds laws initial old new key is_usable taken is_key node place node_usable same =
    let bounds = laws.usable node node_usable in
    let long = ap length same in
    let below = (laws.child_value old.counter node place is_usable node_usable same).0 in
    ap (λ path. register_at new.registers (last_place path)) same
    ∙ taken.filled (omega (arith, bounds.2)) place below
    ∙ ap (λ k. step_of k (low_bytes (record { iksn = old.iksn; counter = old.counter + 2 ^ place }))) is_key
    ∙ sym (child_key laws initial old.iksn old.counter node place is_usable same)
    ∙ ap (λ iksn. transaction_key_of initial iksn node) (sym taken.same_iksn)

-- a node that stays on the frontier keeps its register
stays_holds : TreeLaws → (initial : List ℕ) (old new : RegisterSet) (key : List ℕ) → IsUsable old.counter → IsTaken old key new
    → AreFutureKeysOf initial old → key ≡ transaction_key_of initial old.iksn old.counter
    → (node : ℕ) → IsInFrontier new.counter node → IsInFrontier old.counter node → node ≢ old.counter
    → register_at new.registers (lowest_place node) ≡ transaction_key_of initial new.iksn node
stays_holds laws initial old new key is_usable taken future_keys is_key node held_now held_before other =
    let before = future_keys.holds node held_before ∙ ap (λ iksn. transaction_key_of initial iksn node) (sym taken.same_iksn) in
    elim (cases_order (lowest_place node) (lowest_place old.counter)) [
      | inl same ↦ absurd (other (laws.places old.counter node old.counter held_before (self_held laws old.counter is_usable) same))
      | inr apart ↦
          elim apart [
            | inr above ↦ taken.others_stay (lowest_place node) above ∙ before
            | inl below ↦
                elim (cases_lt (length (path_of old.counter)) 10) [
                  | inr many ↦ taken.not_filled many (lowest_place node) below ∙ before
                  | inl few ↦
                      let child = laws.child old.counter (lowest_place node) is_usable few below in
                      let child_held = (laws.moves old.counter new.counter (old.counter + 2 ^ lowest_place node) is_usable taken.next_counter).1 (inr (child.0, (lowest_place node, child.1))) in
                      let same : node ≡ old.counter + 2 ^ lowest_place node = laws.places new.counter node (old.counter + 2 ^ lowest_place node) held_now child_held (ap last_place (sym child.1)) in
                      child_holds laws initial old new key is_usable taken is_key node (lowest_place node) held_now.is_usable (ap path_of same ∙ child.1)
                ]
          ]
    ]

pub taken_key : TreeLaws → (initial : List ℕ) (old new : RegisterSet) (key : List ℕ) → IsUsable old.counter → IsTaken old key new → AreFutureKeysOf initial old
    → key ≡ transaction_key_of initial old.iksn old.counter
taken_key laws initial old new key is_usable taken future_keys = taken.key_is ∙ future_keys.holds old.counter (self_held laws old.counter is_usable)

-- an old register that keeps nothing
stays_empty : TreeLaws → (old new : RegisterSet) (key : List ℕ) → IsUsable old.counter → IsTaken old key new → LeavesEmpty old.counter old.registers
    → (place : ℕ) → place < 21 → IsEmptyAt new.counter place → lowest_place old.counter ≢ place
    → register_at old.registers place ≡ empty_register
stays_empty laws old new key is_usable taken leaves_empty place within empty apart =
    leaves_empty place within (λ node held same. empty node ((laws.moves old.counter new.counter node is_usable taken.next_counter).1 (inl (held, λ is_counter. apart (ap lowest_place (sym is_counter) ∙ same)))) same)

pub taken_empty : TreeLaws → (old new : RegisterSet) (key : List ℕ) → IsUsable old.counter → IsTaken old key new → LeavesEmpty old.counter old.registers
    → LeavesEmpty new.counter new.registers
taken_empty laws old new key is_usable taken leaves_empty place within empty =
    elim (cases_order place (lowest_place old.counter)) [
      | inl same ↦ ap (register_at new.registers) same ∙ taken.emptied
      | inr apart ↦
          elim apart [
            | inr above ↦ taken.others_stay place above ∙ stays_empty laws old new key is_usable taken leaves_empty place within empty (λ same. omega arith)
            | inl below ↦
                elim (cases_lt (length (path_of old.counter)) 10) [
                  | inr many ↦ taken.not_filled many place below ∙ stays_empty laws old new key is_usable taken leaves_empty place within empty (λ same. omega arith)
                  | inl few ↦
                      let child = laws.child old.counter place is_usable few below in
                      let child_held = (laws.moves old.counter new.counter (old.counter + 2 ^ place) is_usable taken.next_counter).1 (inr (child.0, (place, child.1))) in
                      absurd (empty (old.counter + 2 ^ place) child_held (ap last_place child.1))
                ]
          ]
    ]

pub taken_future_keys : TreeLaws → (initial : List ℕ) (old new : RegisterSet) (key : List ℕ) → IsUsable old.counter → IsTaken old key new → AreFutureKeysOf initial old
    → AreFutureKeysOf initial new
taken_future_keys laws initial old new key is_usable taken future_keys =
    let is_key = taken_key laws initial old new key is_usable taken future_keys in
    record {
      are_21 = taken.same_length ∙ future_keys.are_21;
      holds = λ node held.
          elim ((laws.moves old.counter new.counter node is_usable taken.next_counter).0 held) [
            | inl stays ↦ stays_holds laws initial old new key is_usable taken future_keys is_key node held stays.0 stays.1
            | inr child ↦ child_holds laws initial old new key is_usable taken is_key node child.1.0 child.0 child.1.1
          ];
      leaves_empty = taken_empty laws old new key is_usable taken future_keys.leaves_empty;
    }

pub taken_set : TreeLaws → (old new : RegisterSet) (key : List ℕ) → IsUsable old.counter → IsTaken old key new → IsRegisterSet old → IsRegisterSet new
taken_set laws old new key is_usable taken is_set =
    let past : old.past ≡ new.past = sym taken.same_past in
    let iksn : old.iksn ≡ new.iksn = sym taken.same_iksn in
    record {
      iksn_is = rw taken.same_iksn is_set.iksn_is;
      counter_is = elim taken.next_counter [ inl next ↦ inl next.is_usable | inr spent ↦ inr spent.1 ];
      are_21 = taken.same_length ∙ is_set.are_21;
      leaves_empty = taken_empty laws old new key is_usable taken is_set.leaves_empty;
      past_are_iksns = subst (All IsIksn) past is_set.past_are_iksns;
      past_are_at_most_8 = subst (λ (list : List ℕ). length list ≤ 8) past is_set.past_are_at_most_8;
      past_are_different = subst (AllPairs (λ (one other : ℕ). one ≢ other)) past is_set.past_are_different;
      iksn_is_not_past = subst (λ (n : ℕ). ¬ Contains new.past n) iksn (subst (λ (list : List ℕ). ¬ Contains list old.iksn) past is_set.iksn_is_not_past);
    }

-- the path of a power of two
first_path : ((path : List ℕ) → IsPath path → path_of (value_of path) ≡ path) → (place : ℕ) → place < 21 → path_of (2 ^ place) ≡ place ∷ []
first_path only place within =
    let value : 2 ^ place ≡ value_of (place ∷ []) = omega arith in
    ap path_of value ∙ only (place ∷ []) (within, tt)

first_key : (initial : List ℕ) (iksn place : ℕ) → node_key initial iksn (place ∷ []) ≡ step_of initial (low_bytes (record { iksn = iksn; counter = 2 ^ place }))
first_key initial iksn place =
    let value : 2 ^ place + 0 ≡ 2 ^ place = omega arith in
    ap (λ n. step_of initial (low_bytes (record { iksn = iksn; counter = n }))) value

-- the registers of the powers of two
pub first_future_keys : ((path : List ℕ) → IsPath path → path_of (value_of path) ≡ path)
    → ((node : ℕ) → IsInFrontier 1 node ↔ ((place : ℕ) × (place < 21) × (node ≡ 2 ^ place)))
    → (initial : List ℕ) (set : RegisterSet) → set.counter ≡ 1 → length set.registers ≡ 21
    → ((place : ℕ) → place < 21 → register_at set.registers place ≡ step_of initial (low_bytes (record { iksn = set.iksn; counter = 2 ^ place })))
    → AreFutureKeysOf initial set
first_future_keys only first initial set is_first are_21 keys =
    let path = λ (place : ℕ) (within : place < 21). first_path only place within in
    record {
      are_21 = are_21;
      holds = λ node held.
          let power = (first node).0 (subst (λ counter. IsInFrontier counter node) is_first held) in
          let same : path_of node ≡ power.0 ∷ [] = ap path_of power.2 ∙ path power.0 power.1 in
          ap (λ path. register_at set.registers (last_place path)) same ∙ keys power.0 power.1 ∙ sym (ap (node_key initial set.iksn) same ∙ first_key initial set.iksn power.0);
      leaves_empty = λ place within empty.
          let held = (first (2 ^ place)).1 (place, within, refl) in
          absurd (empty (2 ^ place) (subst (λ counter. IsInFrontier counter (2 ^ place)) (sym is_first) held) (ap last_place (path place within)));
    }

-- ---- what a register may hold

abbrev pub Candidates : Type 0
Candidates = (counter place : ℕ) → 1 ≤ counter → place < 21
    → (IsInFrontier counter (candidate_at counter place) × (last_place (path_of (candidate_at counter place)) ≡ place))
    ⊎ ((node : ℕ) → IsInFrontier counter node → last_place (path_of node) ≢ place)

pub register_either : Candidates → (initial : List ℕ) (set : RegisterSet) (place : ℕ) → 1 ≤ set.counter → AreFutureKeysOf initial set → place < 21
    → (register_at set.registers place ≡ empty_register) ⊎ IsKeyOfNode initial set place
register_either candidates initial set place some future_keys within =
    elim (candidates set.counter place some within) [
      | inr empty ↦ inl (future_keys.leaves_empty place within empty)
      | inl held ↦
          inr
          (record {
            node = candidate_at set.counter place;
            is_in_frontier = held.0;
            is_at = held.1;
            holds = ap (register_at set.registers) (sym held.1) ∙ future_keys.holds (candidate_at set.counter place) held.0;
          })
    ]

same_register : Candidates → (initial : List ℕ) (one other : RegisterSet) → 1 ≤ one.counter → one.iksn ≡ other.iksn → one.counter ≡ other.counter
    → AreFutureKeysOf initial one → AreFutureKeysOf initial other
    → (place : ℕ) → place < 21 → register_at one.registers place ≡ register_at other.registers place
same_register candidates initial one other some iksn counter first second place within =
    elim (candidates one.counter place some within) [
      | inr empty ↦ first.leaves_empty place within empty ∙ sym (second.leaves_empty place within (subst (λ n. IsEmptyAt n place) counter empty))
      | inl held ↦
          let node = candidate_at one.counter place in
          ap (register_at one.registers) (sym held.1)
          ∙ first.holds node held.0
          ∙ ap (λ n. transaction_key_of initial n node) iksn
          ∙ sym (second.holds node (subst (λ n. IsInFrontier n node) counter held.0))
          ∙ ap (register_at other.registers) held.1
    ]

pub same_set : Candidates → (initial : List ℕ) (one other : RegisterSet) → 1 ≤ one.counter → one.iksn ≡ other.iksn → one.counter ≡ other.counter → one.past ≡ other.past
    → AreFutureKeysOf initial one → AreFutureKeysOf initial other
    → one ≡ other
same_set candidates initial one other some iksn counter past first second =
    let registers : one.registers ≡ other.registers =
    ext_get_or empty_register one.registers other.registers (first.are_21 ∙ sym second.are_21) (λ place within. same_register candidates initial one other some iksn counter first second place (omega (arith, first.are_21))) in
    ap (λ (n : ℕ). record { iksn = n; counter = one.counter; registers = one.registers; past = one.past }) iksn
    ∙ ap (λ (n : ℕ). record { iksn = other.iksn; counter = n; registers = one.registers; past = one.past }) counter
    ∙ ap (λ (list : List (List ℕ)). record { iksn = other.iksn; counter = other.counter; registers = list; past = one.past }) registers
    ∙ ap (λ (list : List ℕ). record { iksn = other.iksn; counter = other.counter; registers = other.registers; past = list }) past
