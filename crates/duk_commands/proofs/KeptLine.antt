-- A line of which a front is kept has the answer of that front.
use Rattle.std.proofs.Common.{◌≡◌, ◌+◌, ◌-◌, ◌<◌, ◌≤◌, ◌==◌, ℕ, Bool, true, false, if◌then◌else◌, List, [], ◌∷◌, ◌++◌, length, take, slice_index, inl, inr, subst, sym, ap, ◌∙◌, length-take, arith}
use Rattle.std.specs.Str.Lines.{strip_carriage_return}
use Rattle.std.proofs.lemmas.List.{take_all, take-append-le, length-take-le}
use Rattle.std.proofs.lemmas.Bool.{cases_lt}
use Rattle.duk_commands.specs.Item.{IsItemAnswer, ItemCommand, longest_item}
use Rattle.duk_commands.specs.inner.Batch.{line_room}

-- a line that is too long is no item, and neither is another
long : (command : List ℕ → ItemCommand) (kept line text : List ℕ) (done : Bool) → longest_item < length kept → longest_item < length line
    → IsItemAnswer command kept text done → IsItemAnswer command line text done
long command kept line text true above too answer = absurd (omega (arith, answer.is_item.short))
long command kept line text false above too (inl refused) = absurd (omega (arith, refused.is_item.short))
long command kept line text false above too (inr refused) = inr (record { no_item = λ item. absurd (omega (arith, item.short)); text_is = refused.text_is })

at_most_one : (return : Bool) (line : List ℕ) → length line ≤ length (if return then take (length line - 1) line else line) + 1
at_most_one true line = omega (arith, length-take (length line - 1) line)
at_most_one false line = omega arith

stripped_length : (line : List ℕ) → length line ≤ length (strip_carriage_return line) + 1
stripped_length line = at_most_one (slice_index line (length line - 1) == 13) line

-- of a line that ended
pub ended_answer : (command : List ℕ → ItemCommand) (kept line text : List ℕ) (done : Bool) → kept ≡ take line_room line
    → IsItemAnswer command (strip_carriage_return kept) text done → IsItemAnswer command (strip_carriage_return line) text done
ended_answer command kept line text done is answer =
    elim (cases_lt line_room (length line)) [
      | inl above ↦
          let full : length (take line_room line) ≡ line_room = length-take-le line_room line (omega arith) in
          let width : length kept ≡ line_room = ap length is ∙ full in
          long command (strip_carriage_return kept) (strip_carriage_return line) text done (omega (arith, stripped_length kept)) (omega (arith, stripped_length line)) answer
      | inr within ↦ subst (λ l. IsItemAnswer command (strip_carriage_return l) text done) (is ∙ take_all line_room line within) answer
    ]

-- of a last line
pub last_answer : (command : List ℕ → ItemCommand) (kept line text : List ℕ) (done : Bool) → kept ≡ take line_room line
    → IsItemAnswer command kept text done → IsItemAnswer command line text done
last_answer command kept line text done is answer =
    elim (cases_lt line_room (length line)) [
      | inl above ↦
          let full : length (take line_room line) ≡ line_room = length-take-le line_room line (omega arith) in
          let width : length kept ≡ line_room = ap length is ∙ full in
          long command kept line text done (omega arith) (omega arith) answer
      | inr within ↦ subst (λ l. IsItemAnswer command l text done) (is ∙ take_all line_room line within) answer
    ]

-- a byte more, of which there may be no room
pub kept_more : (kept line : List ℕ) (byte : ℕ) → kept ≡ take line_room line → take line_room (kept ++ byte ∷ []) ≡ take line_room (line ++ byte ∷ [])
kept_more kept line byte is =
    elim (cases_lt line_room (length line)) [
      | inl above ↦
          let within : line_room ≤ length line = omega arith in
          let full : length (take line_room line) ≡ line_room = length-take-le line_room line within in
          let room : line_room ≤ length kept = omega (arith, ap length is) in
          take-append-le line_room kept (byte ∷ []) room ∙ take_all line_room kept (omega (arith, ap length is)) ∙ is ∙ sym (take-append-le line_room line (byte ∷ []) within)
      | inr within ↦ ap (λ l. take line_room (l ++ byte ∷ [])) (is ∙ take_all line_room line within)
    ]
