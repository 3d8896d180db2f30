-- The first line of a text.
use Rattle.std.proofs.Common.{◌≡◌, ◌<◌, ◌≤◌, ◌+◌, ℕ, List, [], ◌∷◌, ◌==◌, length, take, drop, position, Bool, true, false, cond, Some, None, inl, inr, refl, ap, ◌∙◌, arith}
use Rattle.std.proofs.Math.Dec.{eqb-suc-zero}
use Rattle.std.proofs.lemmas.Bool.{cases_lt}
use Rattle.std.proofs.lemmas.Bool.Decides.{nat_tests}
use Rattle.std.proofs.lemmas.List.Quantifiers.{position-Some}
use Rattle.std.proofs.lemmas.List.Splits.{slice_split_first, slice_split_none}
use Rattle.std.proofs.lemmas.List.Sums.{position_or_len_is, fails_before_first}
use Rattle.std.specs.List.{position_or_len, slice_split, onto_first}
use Rattle.std.specs.Str.Lines.{lines, lines_of_parts, strip_carriage_return}

-- the parts of a text are never none
parts_of : (p : ℕ → Bool) (xs : List ℕ) → (part : List ℕ) × (parts : List (List ℕ)) × (slice_split p xs ≡ part ∷ parts)
parts_of p [] = ([], [], refl)
parts_of p (x ∷ xs) = onto x (p x) (slice_split p xs)
  where
    onto : (x : ℕ) (passes : Bool) (rest : List (List ℕ)) → (part : List ℕ) × (parts : List (List ℕ)) × (cond passes ([] ∷ rest) (onto_first x rest) ≡ part ∷ parts)
    onto x true rest = ([], rest, refl)
    onto x false [] = (x ∷ [], [], refl)
    onto x false (part ∷ parts) = (x ∷ part, parts, refl)

-- a part before a newline is a line, without its carriage return
line_before : (part : List ℕ) (rest : List ℕ) → lines_of_parts (part ∷ slice_split (λ byte. byte == 10) rest) ≡ strip_carriage_return part ∷ lines rest
line_before part rest = let more = parts_of (λ byte. byte == 10) rest in rw more.2 refl

pub lines_some : (text : List ℕ) (end : ℕ) → position (λ byte. byte == 10) text ≡ Some end
    → lines text ≡ strip_carriage_return (take end text) ∷ lines (drop (end + 1) text)
lines_some text end at =
    let found = position-Some (λ byte. byte == 10) text end 0 at in
    let first : position_or_len (λ byte. byte == 10) text ≡ end = position_or_len_is (λ byte. byte == 10) text end 0 (omega (arith, found.0)) found.2 (λ h. found.1) in
    let split = slice_split_first (λ byte. byte == 10) text 0 (omega (arith, first, found.0)) in
    ap lines_of_parts (rw first at split) ∙ line_before (take end text) (drop (end + 1) text)

-- no place passes
late : (p : ℕ → Bool) (text : List ℕ) → position p text ≡ None → length text ≤ position_or_len p text
late p text none = elim (cases_lt (position_or_len p text) (length text)) [
  | inl before ↦ absurd (found before none)
  | inr past ↦ past
]
  where
    found : position_or_len p text < length text → position p text ≡ None → ⊥
    found before none = grind (arith, nat_tests)

-- the last line, which lacks its newline
pub lines_none : (text : List ℕ) → position (λ byte. byte == 10) text ≡ None → 0 < length text → lines text ≡ text ∷ []
lines_none text none some =
    let past = late (λ byte. byte == 10) text none in
    let whole = slice_split_none (λ byte. byte == 10) text (λ k d inside. fails_before_first (λ byte. byte == 10) text k d (omega arith)) in
    ap lines_of_parts whole ∙ alone text some
  where
    alone : (text : List ℕ) → 0 < length text → lines_of_parts (text ∷ []) ≡ text ∷ []
    alone [] some = absurd (omega arith)
    alone (byte ∷ bytes) some = rw (eqb-suc-zero (length bytes)) refl
