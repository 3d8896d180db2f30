-- The lines of bytes, one line after the other.
use Rattle.std.proofs.Common.{◌≡◌, ◌≢◌, ◌<◌, ℕ, cond, eqb, false, List, [], ◌∷◌, ◌++◌, length, refl, ap, sym, ◌∙◌, ne_eqb, append_assoc, arith}
use Rattle.std.specs.List.{All, slice_split}
use Rattle.std.specs.Str.Lines.{lines, lines_of_parts, strip_carriage_return}
use Rattle.std.proofs.lemmas.List.Elements.{All-weaker}
use Rattle.std.proofs.lemmas.List.Splits.{length-slice_split, slice_split_at, slice_split_none}

no_part : (line : List ℕ) → All (λ byte. byte ≢ 10) line → All (λ byte. eqb byte 10 ≡ false) line
no_part line no_end = All-weaker (λ byte. byte ≢ 10) (λ byte. eqb byte 10 ≡ false) (λ byte ne. ne_eqb byte 10 ne) line no_end

before_others : (line : List ℕ) (parts : List (List ℕ)) → 0 < length parts → lines_of_parts (line ∷ parts) ≡ strip_carriage_return line ∷ lines_of_parts parts
before_others line [] some = absurd (omega arith)
before_others line (next ∷ others) some = refl

-- a line that LF ends is the first of all
pub first_line : (line more : List ℕ) → All (λ byte. byte ≢ 10) line → lines (line ++ 10 ∷ more) ≡ strip_carriage_return line ∷ lines more
first_line line more no_end =
    let some : 0 < length (slice_split (λ byte. eqb byte 10) more) = omega (arith, length-slice_split (λ byte. eqb byte 10) more) in
    ap lines_of_parts (slice_split_at (λ byte. eqb byte 10) line 10 more (no_part line no_end) refl) ∙ before_others line (slice_split (λ byte. eqb byte 10) more) some

-- bytes without LF are one line, if there are any
pub last_line : (line : List ℕ) → All (λ byte. byte ≢ 10) line → 0 < length line → lines line ≡ line ∷ []
last_line line no_end some =
    ap lines_of_parts (slice_split_none (λ byte. eqb byte 10) line (no_part line no_end)) ∙ ap (λ empty. cond empty [] (line ∷ [])) (ne_eqb (length line) 0 (λ none. omega arith))

-- these bytes are whole lines: what follows them has its lines after theirs
abbrev pub AreWhole : List ℕ → Type 0
AreWhole ended = (more : List ℕ) → lines (ended ++ more) ≡ lines ended ++ lines more

-- whole lines, and one more after them
pub lines_more : (ended line : List ℕ) → AreWhole ended → All (λ byte. byte ≢ 10) line
    → lines (ended ++ line ++ 10 ∷ []) ≡ lines ended ++ strip_carriage_return line ∷ []
lines_more ended line whole no_end =
    ap lines (append_assoc ended line (10 ∷ [])) ∙ whole (line ++ 10 ∷ []) ∙ ap (λ last. lines ended ++ last) (first_line line [] no_end)

pub whole_more : (ended line : List ℕ) → AreWhole ended → All (λ byte. byte ≢ 10) line → AreWhole (ended ++ line ++ 10 ∷ [])
whole_more ended line whole no_end more =
    ap lines (append_assoc (ended ++ line) (10 ∷ []) more ∙ append_assoc ended line (10 ∷ more)) ∙ whole (line ++ 10 ∷ more)
    ∙ ap (λ last. lines ended ++ last) (first_line line more no_end)
    ∙ sym (append_assoc (lines ended) (strip_carriage_return line ∷ []) (lines more))
    ∙ ap (λ first. first ++ lines more) (sym (lines_more ended line whole no_end))
