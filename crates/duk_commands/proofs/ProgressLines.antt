-- The lines of progress, number by number.
use Rattle.std.proofs.Common.{◌≡◌, ◌+◌, ℕ, zero, suc, true, false, List, Option, None, Some, [], ◌∷◌, ◌++◌, map, filter, ap, refl, sym, subst, ◌∙◌, arith, append-nil}
use Rattle.std.proofs.lemmas.List.{map-append}
use Rattle.std.proofs.lemmas.List.Elements.{filter-append}
use Rattle.std.specs.List.{range_with_len}
use Rattle.duk_commands.specs.Progress.{AreTried, is_step, progress_line, progress_lines, progress_step}
use Rattle.duk_commands.specs.declared.sought.Sought.{Sought}
use Rattle.duk_commands.specs.inner.Search.{IsProgressTold}
use Rattle.duk_io.specs.Known.{Known}
use Rattle.duk_io.specs.Sink.{IsTried}

-- lines behind lines
tried_then : (begin between end : Known) (first second : List (List ℕ)) → AreTried begin between first → AreTried between end second
    → AreTried begin end (first ++ second)
tried_then begin between end [] second none then = subst (λ old. AreTried old end second) none then
tried_then begin between end (line ∷ first) second before then =
    (before.0, before.1, tried_then before.0 between end first second before.2 then)

numbers_more : (count from : ℕ) → range_with_len from (suc count) ≡ range_with_len from count ++ (from + count) ∷ []
numbers_more zero from = let same : from ≡ from + 0 = omega arith in ap (λ n. n ∷ []) same
numbers_more (suc count) from =
    let same : from + 1 + count ≡ from + suc count = omega arith in
    ap (λ l. from ∷ l) (numbers_more count (from + 1) ∙ ap (λ n. range_with_len (from + 1) count ++ n ∷ []) same)

-- the lines where one number more is tried
lines_more : (step most tried : ℕ) → progress_lines (Some step) most (tried + 1)
    ≡ progress_lines (Some step) most tried ++ map (progress_line most) (filter (is_step step) (tried ∷ []))
lines_more step most tried =
    let next : tried + 1 ≡ suc tried = omega arith in
    let last : 0 + tried ≡ tried = omega arith in
    ap (progress_lines (Some step) most) next
    ∙ ap (λ l. map (progress_line most) (filter (is_step step) l)) (numbers_more tried 0 ∙ ap (λ n. range_with_len 0 tried ++ n ∷ []) last)
    ∙ ap (map (progress_line most)) (filter-append (is_step step) (range_with_len 0 tried) (tried ∷ []))
    ∙ map-append (progress_line most) (filter (is_step step) (range_with_len 0 tried)) (filter (is_step step) (tried ∷ []))

-- a line is told of this many
told_line : (step most tried : ℕ) (begin old new : Known) → is_step step tried ≡ true → AreTried begin old (progress_lines (Some step) most tried)
    → IsTried old new (progress_line most tried) → AreTried begin new (progress_lines (Some step) most (tried + 1))
told_line step most tried begin old new is before line =
    let one : map (progress_line most) (filter (is_step step) (tried ∷ [])) ≡ progress_line most tried ∷ [] = rw is refl in
    subst (AreTried begin new) (sym (lines_more step most tried ∙ ap (λ l. progress_lines (Some step) most tried ++ l) one))
    (tried_then begin old new (progress_lines (Some step) most tried) (progress_line most tried ∷ []) before (new, line, refl))

-- no line is told of this many
told_none : (step most tried : ℕ) (begin now : Known) → is_step step tried ≡ false → AreTried begin now (progress_lines (Some step) most tried)
    → AreTried begin now (progress_lines (Some step) most (tried + 1))
told_none step most tried begin now is before =
    let none : map (progress_line most) (filter (is_step step) (tried ∷ [])) ≡ [] = rw is refl in
    subst (AreTried begin now) (sym (lines_more step most tried ∙ ap (λ l. progress_lines (Some step) most tried ++ l) none ∙ append-nil (progress_lines (Some step) most tried)))
    before

-- before a number is tried, no line is told
none_of : (step : Option ℕ) (most : ℕ) → progress_lines step most 0 ≡ []
none_of None most = refl
none_of (Some step) most = refl

pub none_told : (sought : Sought) (most numbers : ℕ) (now : Known) → numbers ≡ 0 → IsProgressTold sought most numbers now now
none_told sought most numbers now none =
    subst (λ n. IsProgressTold sought most n now now) (sym none) (subst (AreTried now now) (sym (none_of (progress_step sought) most)) refl)

-- where the search has this step, a line is told of this many, or none
pub told_at_step : (sought : Sought) (step most tried : ℕ) (begin old new : Known) → progress_step sought ≡ Some step → is_step step tried ≡ true
    → IsTried old new (progress_line most tried) → IsProgressTold sought most tried begin old → IsProgressTold sought most (tried + 1) begin new
told_at_step sought step most tried begin old new has is line before =
    subst (λ s. AreTried begin new (progress_lines s most (tried + 1))) (sym has)
    (told_line step most tried begin old new is (subst (λ s. AreTried begin old (progress_lines s most tried)) has before) line)

pub told_between_steps : (sought : Sought) (step most tried : ℕ) (begin now : Known) → progress_step sought ≡ Some step → is_step step tried ≡ false
    → IsProgressTold sought most tried begin now → IsProgressTold sought most (tried + 1) begin now
told_between_steps sought step most tried begin now has is before =
    subst (λ s. AreTried begin now (progress_lines s most (tried + 1))) (sym has)
    (told_none step most tried begin now is (subst (λ s. AreTried begin now (progress_lines s most tried)) has before))
