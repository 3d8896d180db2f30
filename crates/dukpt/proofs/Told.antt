-- The items after which lines stand, one after the other.
use Rattle.std.proofs.Common.{◌≡◌, ◌+◌, ◌-◌, ◌<◌, ◌≤◌, ℕ, zero, suc, Bool, false, List, [], ◌∷◌, ◌++◌, Option, filter, map, ap, refl, sym, subst, ◌∙◌, arith, append-nil}
use Rattle.std.proofs.lemmas.List.{map-append}
use Rattle.std.proofs.lemmas.List.Elements.{filter-append}
use Rattle.std.specs.List.{range_with_len}
use Rattle.duk_commands.specs.Progress.{AreTried}
use Rattle.duk_io.specs.Known.{Known}
use Rattle.duk_io.specs.Sink.{IsTried}
use Rattle.dukpt.specs.inner.Progress.{is_told, progress_line, progress_lines, IsNextTold, IsNoneTold}

-- lines behind lines
tried_then : (begin between end : Known) (first second : List (List ℕ)) → AreTried begin between first → AreTried between end second
    → AreTried begin end (first ++ second)
tried_then begin between end [] second none then = subst (λ old. AreTried old end second) none then
tried_then begin between end (line ∷ first) second before then =
    (before.0, before.1, tried_then before.0 between end first second before.2 then)

-- numbers behind numbers
range_then : (from first second : ℕ) → range_with_len from (first + second) ≡ range_with_len from first ++ range_with_len (from + first) second
range_then from zero second =
    let none : 0 + second ≡ second = omega arith in
    let same : from ≡ from + 0 = omega arith in
    ap (range_with_len from) none ∙ ap (λ n. range_with_len n second) same
range_then from (suc first) second =
    let one : suc first + second ≡ suc (first + second) = omega arith in
    let same : from + 1 + first ≡ from + suc first = omega arith in
    ap (range_with_len from) one
    ∙ ap (λ l. from ∷ l) (range_then (from + 1) first second ∙ ap (λ n. range_with_len (from + 1) first ++ range_with_len n second) same)

-- where no number passes, none is kept
none_kept : (test : ℕ → Bool) (from count : ℕ) → ((n : ℕ) → from ≤ n → n < from + count → test n ≡ false)
    → filter test (range_with_len from count) ≡ []
none_kept test from zero none = refl
none_kept test from (suc count) none =
    let fails : test from ≡ false = none from (omega arith) (omega arith) in
    rw fails (none_kept test (from + 1) count (λ n above below. none n (omega arith) (omega arith)))

-- the lines up to some items, and those behind them
lines_split : (total : Option ℕ) (before told done : ℕ) → before ≤ told → told ≤ done
    → progress_lines total before done ≡ progress_lines total before told ++ progress_lines total told done
lines_split total before told done first second =
    let count : done - before ≡ (told - before) + (done - told) = omega arith in
    let from : before + 1 + (told - before) ≡ told + 1 = omega arith in
    let numbers : range_with_len (before + 1) (done - before) ≡ range_with_len (before + 1) (told - before) ++ range_with_len (told + 1) (done - told) =
    ap (range_with_len (before + 1)) count ∙ range_then (before + 1) (told - before) (done - told)
    ∙ ap (λ n. range_with_len (before + 1) (told - before) ++ range_with_len n (done - told)) from in
    ap (λ l. map (progress_line total) (filter (is_told total) l)) numbers
    ∙ ap (map (progress_line total)) (filter-append (is_told total) (range_with_len (before + 1) (told - before)) (range_with_len (told + 1) (done - told)))
    ∙ map-append (progress_line total) (filter (is_told total) (range_with_len (before + 1) (told - before))) (filter (is_told total) (range_with_len (told + 1) (done - told)))

-- where a line stands after none of them, there is none
no_line : (total : Option ℕ) (told done : ℕ) → IsNoneTold total told done → progress_lines total told done ≡ []
no_line total told done none =
    ap (map (progress_line total)) (none_kept (is_told total) (told + 1) (done - told) (λ n above below. none n (omega arith) (omega arith)))

-- up to the next one after which a line stands there is its line
one_line : (total : Option ℕ) (told done item : ℕ) → IsNextTold total told done item → progress_lines total told item ≡ progress_line total item ∷ []
one_line total told done item next =
    let behind = next.behind in
    let count : item - told ≡ (item - told - 1) + 1 = omega arith in
    let last : told + 1 + (item - told - 1) ≡ item = omega arith in
    let numbers : range_with_len (told + 1) (item - told) ≡ range_with_len (told + 1) (item - told - 1) ++ item ∷ [] =
    ap (range_with_len (told + 1)) count ∙ range_then (told + 1) (item - told - 1) 1
    ∙ ap (λ n. range_with_len (told + 1) (item - told - 1) ++ n ∷ []) last in
    let none : filter (is_told total) (range_with_len (told + 1) (item - told - 1)) ≡ [] =
    none_kept (is_told total) (told + 1) (item - told - 1) (λ n above below. next.first n (omega arith) (omega arith)) in
    let one : filter (is_told total) (item ∷ []) ≡ item ∷ [] = rw next.told refl in
    ap (λ l. map (progress_line total) (filter (is_told total) l)) numbers
    ∙ ap (map (progress_line total)) (filter-append (is_told total) (range_with_len (told + 1) (item - told - 1)) (item ∷ [])
    ∙ ap (λ l. l ++ filter (is_told total) (item ∷ [])) none ∙ one)

-- a line more is told
pub told_more : (total : Option ℕ) (before told done item : ℕ) (begin old new : Known) → before ≤ told → IsNextTold total told done item
    → AreTried begin old (progress_lines total before told) → IsTried old new (progress_line total item)
    → AreTried begin new (progress_lines total before item)
told_more total before told done item begin old new order next so_far line =
    let behind = next.behind in
    let lines : progress_lines total before item ≡ progress_lines total before told ++ progress_line total item ∷ [] =
    lines_split total before told item order (omega arith) ∙ ap (λ l. progress_lines total before told ++ l) (one_line total told done item next) in
    subst (AreTried begin new) (sym lines) (tried_then begin old new (progress_lines total before told) (progress_line total item ∷ []) so_far (new, line, refl))

-- no line more is to be told
pub told_all : (total : Option ℕ) (before told done : ℕ) (begin now : Known) → before ≤ told → told ≤ done → IsNoneTold total told done
    → AreTried begin now (progress_lines total before told) → AreTried begin now (progress_lines total before done)
told_all total before told done begin now first second none so_far =
    let lines : progress_lines total before done ≡ progress_lines total before told =
    lines_split total before told done first second ∙ ap (λ l. progress_lines total before told ++ l) (no_line total told done none)
    ∙ append-nil (progress_lines total before told) in
    subst (AreTried begin now) (sym lines) so_far

-- where no item more is done, no line is told
pub told_none : (total : Option ℕ) (done : ℕ) (now : Known) → AreTried now now (progress_lines total done done)
told_none total done now =
    let none : done - done ≡ 0 = omega arith in
    rw none refl
