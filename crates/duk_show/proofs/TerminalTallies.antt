-- The terminals of a log's numbers, as an index finds them.
use Rattle.std.proofs.Common.{◌≡◌, ◌≤◌, ◌<◌, ◌+◌, ◌∷◌, ◌++◌, [], ◌||◌, inl, inr, ℕ, suc, Bool, true, false, cond, if◌then◌else◌, List, Option, None, Some, IfSome, is_some, length, flat_map, take, drop, get_or, add-one, drop-cons, refl, ap, sym, subst, ◌∙◌, append_assoc, length-append, nat_eq, arith}
use Rattle.std.proofs.lemmas.Bool.Decides.{eqb_tells}
use Rattle.std.proofs.lemmas.Bool.{eq-eqb}
use Rattle.std.proofs.lemmas.List.{append-nil, drop_all, take_more}
use Rattle.std.proofs.lemmas.List.Folds.{list_any-append}
use Rattle.std.proofs.lemmas.Map.Keys.{IsDistinct-head, IsDistinct-tail}
use Rattle.std.specs.List.{AllByRecursion, IsDistinct, filter}
use Rattle.std.specs.Map.{keys_of, lookup, values_of}
use Rattle.indexmap.specs.IndexMap.{insert_entry}
use Rattle.duk_tree.specs.Serial.{Serial}
use Rattle.duk_show.specs.Log.{is_of, last_after, lines_if_first, terminal_line, terminal_lines}
use Rattle.duk_show.specs.declared.tallies.Tally.{Tally}
use Rattle.duk_show.specs.inner.Tallies.{AreTallies, line_with, next_tally, tally_line, with_own}

-- a number of another terminal than these leaves their lines
other_lines : (number : Serial) (more : List Serial) (entries : List (ℕ × Tally)) → AllByRecursion (λ key. nat_eq number.iksn key ≡ false) (keys_of entries)
    → flat_map (line_with (number ∷ more)) entries ≡ flat_map (line_with more) entries
other_lines number more [] none = refl
other_lines number more (entry ∷ entries) none =
    let own : List Serial = filter (is_of entry.0) more in
    ap (λ (b : Bool). tally_line (with_own entry.1 (cond b (number ∷ own) own)) ++ flat_map (line_with (number ∷ more)) entries) none.0
    ∙ ap (λ (lines : List ℕ). line_with more entry ++ lines) (other_lines number more entries none.1)

-- the line of a terminal that a number begins
new_line : (number : Serial) (more : List Serial) → line_with more (number.iksn, next_tally None number) ≡ terminal_line number (number ∷ more)
new_line number more =
    let own : List Serial = filter (is_of number.iksn) more in
    let sum : 1 + length own ≡ suc (length own) = omega arith in
    ap (λ (n : ℕ). tally_line (record { first = number; count = n; last = last_after number own })) sum
    ∙ ap (λ (b : Bool). tally_line (record { first = number; count = length (cond b (number ∷ own) own); last = last_after number (cond b (number ∷ own) own) })) (sym (eq-eqb number.iksn number.iksn refl))

-- a number that is counted leaves the lines of the terminals that are known, and adds that of a new one
counted : (number : Serial) (more : List Serial) (entries : List (ℕ × Tally)) → IsDistinct nat_eq (keys_of entries)
    → flat_map (line_with more) (insert_entry nat_eq entries number.iksn (next_tally (lookup (nat_eq number.iksn) entries) number))
    ≡ flat_map (line_with (number ∷ more)) entries ++ (if is_some (lookup (nat_eq number.iksn) entries) then [] else terminal_line number (number ∷ more))
counted number more [] distinct = append-nil (line_with more (number.iksn, next_tally None number)) ∙ new_line number more
counted number more (entry ∷ entries) distinct =
    let own : List Serial = filter (is_of entry.0) more in
    let others : Option Tally = lookup (nat_eq number.iksn) entries in
    let old : List ℕ = flat_map (line_with (number ∷ more)) entries in
    let tally : Bool → Tally = λ b. next_tally (cond b (Some entry.1) others) number in
    let P : Bool → Type 0 = λ b. flat_map (line_with more) (if b then (entry.0, tally b) ∷ entries else entry ∷ insert_entry nat_eq entries number.iksn (tally b))
    ≡ (tally_line (with_own entry.1 (cond b (number ∷ own) own)) ++ old) ++ (if is_some (cond b (Some entry.1) others) then [] else terminal_line number (number ∷ more)) in
    elim (eqb_tells number.iksn entry.0) [
      | inl same ↦
          let none : AllByRecursion (λ key. nat_eq number.iksn key ≡ false) (keys_of entries) =
          subst (λ (own : ℕ). AllByRecursion (λ key. nat_eq own key ≡ false) (keys_of entries)) (sym same.1) (IsDistinct-head nat_eq entry.0 (keys_of entries) distinct) in
          let sum : (entry.1.count + 1) + length own ≡ entry.1.count + suc (length own) = omega arith in
          subst P (sym same.0)
          (ap (λ (n : ℕ). tally_line (record { first = entry.1.first; count = n; last = last_after number own }) ++ flat_map (line_with more) entries) sum
          ∙ ap (λ (lines : List ℕ). tally_line (with_own entry.1 (number ∷ own)) ++ lines) (sym (other_lines number more entries none))
          ∙ sym (append-nil (tally_line (with_own entry.1 (number ∷ own)) ++ old)))
      | inr other ↦
          subst P (sym other.0)
          (ap (λ (lines : List ℕ). line_with more entry ++ lines) (counted number more entries (IsDistinct-tail nat_eq entry.0 (keys_of entries) distinct))
          ∙ sym (append_assoc (line_with more entry) old (if is_some others then [] else terminal_line number (number ∷ more))))
    ]

-- what the index has at a terminal after a number
some_or : (same : Bool) (tally : Tally) (old : Option Tally) → is_some (cond same (Some tally) old) ≡ (is_some old || (same || false))
some_or true tally None = refl
some_or true tally (Some t) = refl
some_or false tally None = refl
some_or false tally (Some t) = refl

next_fits : (old : Option Tally) (number : Serial) (most : ℕ) → IfSome old (λ tally. tally.count ≤ most) → (next_tally old number).count ≤ most + 1
next_fits None number most fits = omega arith
next_fits (Some tally) number most fits = omega (arith, fits)

still_fits : (same : Bool) (tally : Tally) (old : Option Tally) (most more : ℕ) → tally.count ≤ more → most ≤ more → IfSome old (λ tally. tally.count ≤ most)
    → IfSome (cond same (Some tally) old) (λ tally. tally.count ≤ more)
still_fits true tally old most more now grows fits = now
still_fits false tally None most more now grows fits = tt
still_fits false tally (Some other) most more now grows fits = omega (arith, fits, grows)

-- one number more
next : (before more all : List Serial) (number : Serial) (old new : List (ℕ × Tally)) → AreTallies before (number ∷ more) all old
    → new ≡ insert_entry nat_eq old number.iksn (next_tally (lookup (nat_eq number.iksn) old) number)
    → ((iksn : ℕ) → lookup (nat_eq iksn) new ≡ cond (nat_eq number.iksn iksn) (Some (next_tally (lookup (nat_eq number.iksn) old) number)) (lookup (nat_eq iksn) old))
    → IsDistinct nat_eq (keys_of new)
    → AreTallies (before ++ number ∷ []) more all new
next before more all number old new so_far entries updates unique =
    let tally : Tally = next_tally (lookup (nat_eq number.iksn) old) number in
    let after : List Serial = before ++ number ∷ [] in
    let rest : List ℕ = terminal_lines after more in
    let known : List ℕ = flat_map (line_with (number ∷ more)) old in
    let size : length after ≡ length before + 1 = length-append before (number ∷ []) in
    record {
      lines = ap (λ (es : List (ℕ × Tally)). flat_map (line_with more) es ++ rest) entries
          ∙ ap (λ (lines : List ℕ). lines ++ rest) (counted number more old so_far.unique)
          ∙ ap (λ (b : Bool). (known ++ (if b then [] else terminal_line number (number ∷ more))) ++ rest) (so_far.seen number.iksn)
          ∙ append_assoc known (lines_if_first before number (number ∷ more)) rest
          ∙ so_far.lines;
      seen = λ iksn.
          ap is_some (updates iksn)
          ∙ some_or (nat_eq number.iksn iksn) tally (lookup (nat_eq iksn) old)
          ∙ ap (λ (b : Bool). b || (nat_eq number.iksn iksn || false)) (so_far.seen iksn)
          ∙ sym (list_any-append (is_of iksn) before (number ∷ []));
      fits = λ iksn.
          let now : tally.count ≤ length after = omega (arith, size, next_fits (lookup (nat_eq number.iksn) old) number (length before) (so_far.fits number.iksn)) in
          subst (λ (found : Option Tally). IfSome found (λ tally. tally.count ≤ length after)) (sym (updates iksn))
          (still_fits (nat_eq number.iksn iksn) tally (lookup (nat_eq iksn) old) (length before) (length after) now (omega (arith, size)) (so_far.fits iksn));
      unique = unique;
    }

-- the number at a place is one more
pub in_turn : (numbers : List Serial) (place : ℕ) (number : Serial) (old new : List (ℕ × Tally)) → place < length numbers → number ≡ get_or numbers place number
    → AreTallies (take place numbers) (drop place numbers) numbers old
    → new ≡ insert_entry nat_eq old number.iksn (next_tally (lookup (nat_eq number.iksn) old) number)
    → ((iksn : ℕ) → lookup (nat_eq iksn) new ≡ cond (nat_eq number.iksn iksn) (Some (next_tally (lookup (nat_eq number.iksn) old) number)) (lookup (nat_eq iksn) old))
    → IsDistinct nat_eq (keys_of new)
    → AreTallies (take (place + 1) numbers) (drop (place + 1) numbers) numbers new
in_turn numbers place number old new inside is so_far entries updates unique =
    let before : List Serial = take place numbers in
    let more : List Serial = drop (place + 1) numbers in
    let rest : drop place numbers ≡ number ∷ more =
    drop-cons numbers place number inside ∙ ap (λ (n : Serial). n ∷ drop (suc place) numbers) (sym is) ∙ ap (λ (n : ℕ). number ∷ drop n numbers) (sym (add-one place)) in
    let front : take (place + 1) numbers ≡ before ++ number ∷ [] = take_more numbers place number inside ∙ ap (λ (n : Serial). before ++ n ∷ []) (sym is) in
    subst (λ (front : List Serial). AreTallies front more numbers new) (sym front)
    (next before more numbers number old new (subst (λ (rest : List Serial). AreTallies before rest numbers old) rest so_far) entries updates unique)

-- where nothing is left, the lines are those of the tallies as they stand
as_they_stand : (entries : List (ℕ × Tally)) → flat_map (line_with []) entries ≡ flat_map tally_line (values_of entries)
as_they_stand [] = refl
as_they_stand (entry ∷ entries) =
    let sum : entry.1.count + 0 ≡ entry.1.count = omega arith in
    ap (λ (n : ℕ). tally_line (record { first = entry.1.first; count = n; last = entry.1.last }) ++ flat_map (line_with []) entries) sum
    ∙ ap (λ (lines : List ℕ). tally_line entry.1 ++ lines) (as_they_stand entries)

-- where all are counted
pub whole : (numbers : List Serial) (place : ℕ) (entries : List (ℕ × Tally)) → length numbers ≤ place → AreTallies (take place numbers) (drop place numbers) numbers entries
    → flat_map tally_line (values_of entries) ≡ terminal_lines [] numbers
whole numbers place entries all are =
    let before : List Serial = take place numbers in
    let at_end : AreTallies before [] numbers entries = subst (λ (rest : List Serial). AreTallies before rest numbers entries) (drop_all place numbers all) are in
    sym (as_they_stand entries) ∙ sym (append-nil (flat_map (line_with []) entries)) ∙ at_end.lines
