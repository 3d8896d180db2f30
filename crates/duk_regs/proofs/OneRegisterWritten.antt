-- Writes to one register.
use Rattle.std.proofs.Common.{◌≡◌, ◌≢◌, ◌↔◌, Option, IfSome, IsNone, get_or, ℕ, ◌+◌, ◌<◌, ◌≤◌, ◌^◌, List, length, set, sym, ap, ◌∙◌, arith, inl, inr, refl}
use Rattle.std.proofs.lemmas.Bool.{cases_lt}
use Rattle.std.proofs.lemmas.List.{get_or-set_same, get_or-set_other, get_or_default}
use Rattle.std.specs.Int.{trailing_zeros, w32}
use Rattle.std.specs.Option.{unwrap_or}
use Rattle.duk_tree.specs.Path.{path_of, IsUsable}
use Rattle.duk_tree.specs.Next.{IsNextUsable, IsLast, spent_counter}
use Rattle.duk_tree.specs.Derivation.{step_of}
use Rattle.duk_tree.specs.Serial.{low_bytes}
use Rattle.duk_regs.specs.Registers.{RegisterSet, IsTaken, empty_register, register_at, lowest_place}
use Rattle.duk_regs.proofs.CounterBounds.{BitLaws, trailing_place, comes_after}

pub written_at : (registers : List (List ℕ)) (place : ℕ) (key : List ℕ) → place < length registers → register_at (set registers place key) place ≡ key
written_at registers place key within = get_or-set_same registers place key empty_register within

pub stays_at : (registers : List (List ℕ)) (at place : ℕ) (key : List ℕ) → place ≢ at → register_at (set registers at key) place ≡ register_at registers place
stays_at registers at place key other = get_or-set_other registers at place key empty_register other

-- one register more has what it should
pub filled_more : (registers : List (List ℕ)) (at : ℕ) (key : List ℕ) (wanted : ℕ → List ℕ) → at < length registers → key ≡ wanted at
    → ((place : ℕ) → place < at → register_at registers place ≡ wanted place)
    → (place : ℕ) → place < at + 1 → register_at (set registers at key) place ≡ wanted place
filled_more registers at key wanted within is_wanted filled place below =
    elim (cases_lt place at) [
      | inl earlier ↦ stays_at registers at place key (λ same. omega arith) ∙ filled place earlier
      | inr here ↦
          let same : place ≡ at = omega arith in
          ap (register_at (set registers at key)) same ∙ written_at registers at key within ∙ is_wanted ∙ ap wanted (sym same)
    ]

-- what `take` does: the register of the lowest one bit emptied, and those below it filled
pub taken_by : BitLaws → (old : RegisterSet) (default emptied : List ℕ) (found : Option ℕ) (filled : List (List ℕ)) → IsUsable old.counter
    → length old.registers ≡ 21
    → emptied ≡ empty_register
    → length filled ≡ 21
    → (length (path_of old.counter) < 10 → (lower : ℕ) → lower < lowest_place old.counter
    → register_at filled lower ≡ step_of (get_or old.registers (trailing_zeros w32 old.counter) default) (low_bytes (record { iksn = old.iksn; counter = old.counter + 2 ^ lower })))
    → (10 ≤ length (path_of old.counter) → filled ≡ set old.registers (trailing_zeros w32 old.counter) emptied)
    → ((other : ℕ) → lowest_place old.counter ≤ other → register_at filled other ≡ register_at (set old.registers (trailing_zeros w32 old.counter) emptied) other)
    → IfSome found (IsNextUsable old.counter)
    → (IsNone found ↔ IsLast old.counter)
    → IsTaken old (get_or old.registers (trailing_zeros w32 old.counter) default) (record { iksn = old.iksn; counter = unwrap_or found spent_counter; registers = filled; past = old.past })
taken_by laws old default emptied found filled is_usable are_21 no_key still_21 lower not_filled others_stay is_next none =
    let place = trailing_zeros w32 old.counter in
    let lowest : place ≡ lowest_place old.counter = trailing_place laws old.counter is_usable in
    let within : place < length old.registers = omega (arith, laws.place old.counter is_usable) in
    record {
      same_iksn = refl;
      same_past = refl;
      same_length = still_21 ∙ sym are_21;
      next_counter = comes_after old.counter found is_next none;
      key_is = get_or_default old.registers place default empty_register within ∙ ap (register_at old.registers) lowest;
      emptied =
          others_stay (lowest_place old.counter) (omega arith)
          ∙ ap (register_at (set old.registers place emptied)) (sym lowest)
          ∙ written_at old.registers place emptied within
          ∙ no_key;
      filled = lower;
      not_filled = λ many other below. ap (λ registers. register_at registers other) (not_filled many) ∙ stays_at old.registers place other emptied (λ same. omega arith);
      others_stay = λ other above. others_stay other (omega arith) ∙ stays_at old.registers place other emptied (λ same. omega arith);
    }
