-- A batch under way, byte by byte.
use Rattle.std.proofs.Common.{◌≡◌, ◌≢◌, ◌<◌, ℕ, Bool, true, ◌&&◌, List, [], ◌∷◌, ◌++◌, length, take, inl, inr, refl, sym, ap, ◌∙◌, subst, append_assoc, append-nil, length-take, arith}
use Rattle.std.specs.Str.Lines.{lines, strip_carriage_return}
use Rattle.std.proofs.lemmas.List.Elements.{All-nil, All-push}
use Rattle.duk_io.specs.Known.{Known}
use Rattle.duk_io.specs.Sink.{IsCut, IsWritten}
use Rattle.duk_commands.specs.Item.{IsItemAnswer, ItemCommand}
use Rattle.duk_commands.specs.inner.Batch.{AreAllWritten, AreAnswered, AreCut, IsCutOff, IsPushed, IsUnderWay, line_room}
use Rattle.duk_commands.proofs.AnswersInTurn.{WriteLaws, all_written, answers_cut, none_answered, one_answered}
use Rattle.duk_commands.proofs.KeptLine.{ended_answer, kept_more, last_answer}
use Rattle.duk_commands.proofs.LinesInTurn.{last_line, lines_more, whole_more}

-- nothing has come
pub start : (command : List ℕ → ItemCommand) (laws : WriteLaws) (now : Known) → IsUnderWay command [] [] true [] now now
start command laws now = record {
  ended = [];
  rest = [];
  within = record { bytes_are = refl; at_end = inl refl; no_end = All-nil _ };
  goes_on = λ more. refl;
  kept = refl;
  answered = none_answered command laws now;
}

-- a byte of a line
pub byte_kept : (command : List ℕ → ItemCommand) (bytes line line' : List ℕ) (byte : ℕ) (done : Bool) (held : List ℕ) (before now : Known)
    → byte ≢ 10 → line' ≡ take line_room (line ++ byte ∷ []) → IsUnderWay command bytes line done held before now
    → IsUnderWay command (bytes ++ byte ∷ []) line' done held before now
byte_kept command bytes line line' byte done held before now no_end is way = record {
  ended = way.ended;
  rest = way.rest ++ byte ∷ [];
  within = record {
    bytes_are = ap (λ front. front ++ byte ∷ []) way.within.bytes_are ∙ append_assoc way.ended way.rest (byte ∷ []);
    at_end = way.within.at_end;
    no_end = All-push (λ b. b ≢ 10) way.rest byte way.within.no_end no_end;
  };
  goes_on = way.goes_on;
  kept = is ∙ kept_more line way.rest byte way.kept;
  answered = way.answered;
}

-- the end of a line
pub line_answered : (command : List ℕ → ItemCommand) (laws : WriteLaws) (bytes line : List ℕ) (done : Bool) (held held' text : List ℕ) (is_done : Bool) (before now now' : Known)
    → IsItemAnswer command (strip_carriage_return line) text is_done → IsPushed held held' text now now' → IsUnderWay command bytes line done held before now
    → IsUnderWay command (bytes ++ 10 ∷ []) [] (done && is_done) held' before now'
line_answered command laws bytes line done held held' text is_done before now now' answer pushed way =
    let ended = way.ended ++ way.rest ++ 10 ∷ [] in
    let right = ended_answer command line way.rest text is_done way.kept answer in
    let answered = one_answered command laws (lines way.ended) done held held' (strip_carriage_return way.rest) text is_done before now now' way.answered pushed right in
    record {
      ended = ended;
      rest = [];
      within = record {
        bytes_are = ap (λ front. front ++ 10 ∷ []) way.within.bytes_are ∙ sym (append-nil ended);
        at_end = inr (way.ended ++ way.rest, refl);
        no_end = All-nil _;
      };
      goes_on = whole_more way.ended way.rest way.goes_on way.within.no_end;
      kept = refl;
      answered = subst (λ ls. AreAnswered command ls (done && is_done) held' before now') (sym (lines_more way.ended way.rest way.goes_on way.within.no_end)) answered;
    }

-- what was held back is written
pub piece_written : (command : List ℕ → ItemCommand) (laws : WriteLaws) (bytes line : List ℕ) (done : Bool) (held : List ℕ) (before now now' : Known)
    → IsWritten now now' held → IsUnderWay command bytes line done held before now → IsUnderWay command bytes line done [] before now'
piece_written command laws bytes line done held before now now' written way = record {
  ended = way.ended;
  rest = way.rest;
  within = way.within;
  goes_on = way.goes_on;
  kept = way.kept;
  answered = all_written command laws (lines way.ended) done held before now now' way.answered written;
}

-- or it is cut
pub cut_off : (command : List ℕ → ItemCommand) (laws : WriteLaws) (bytes line : List ℕ) (done : Bool) (held : List ℕ) (before now now' : Known)
    → IsCut now now' held → IsUnderWay command bytes line done held before now → IsCutOff command bytes before now'
cut_off command laws bytes line done held before now now' cut way = record {
  ended = way.ended;
  rest = way.rest;
  bytes_are = way.within.bytes_are;
  goes_on = way.goes_on;
  answers = way.answered.answers;
  right = way.answered.right;
  cut = answers_cut command laws (lines way.ended) done held before now now' way.answered cut;
}

-- other bytes had come by then
pub cut_earlier : (command : List ℕ → ItemCommand) (bytes more : List ℕ) (before now : Known) → IsCutOff command bytes before now → IsCutOff command (bytes ++ more) before now
cut_earlier command bytes more before now off = record {
  ended = off.ended;
  rest = off.rest ++ more;
  bytes_are = ap (λ front. front ++ more) off.bytes_are ∙ append_assoc off.ended off.rest more;
  goes_on = off.goes_on;
  answers = off.answers;
  right = off.right;
  cut = off.cut;
}

pub cut_lines : (command : List ℕ → ItemCommand) (bytes : List ℕ) (before now : Known) → IsCutOff command bytes before now → AreCut command bytes before now
cut_lines command bytes before now off = record {
  first = lines off.ended;
  others = lines off.rest;
  lines_are = ap lines off.bytes_are ∙ off.goes_on off.rest;
  answers = off.answers;
  right = off.right;
  cut = off.cut;
}

none_kept : (rest : List ℕ) → length (take line_room rest) ≡ 0 → rest ≡ []
none_kept [] none = refl
none_kept (byte ∷ rest) none = absurd (omega arith)

-- the bytes end after a line
pub no_last_line : (command : List ℕ → ItemCommand) (bytes line : List ℕ) (done : Bool) (held : List ℕ) (before now : Known)
    → length line ≡ 0 → IsUnderWay command bytes line done held before now → AreAnswered command (lines bytes) done held before now
no_last_line command bytes line done held before now none way =
    let empty : way.rest ≡ [] = none_kept way.rest (sym (ap length way.kept) ∙ none) in
    let same : lines bytes ≡ lines way.ended = ap lines (way.within.bytes_are ∙ ap (λ rest. way.ended ++ rest) empty ∙ append-nil way.ended) in
    subst (λ ls. AreAnswered command ls done held before now) (sym same) way.answered

-- or within one
pub last_line_answered : (command : List ℕ → ItemCommand) (laws : WriteLaws) (bytes line : List ℕ) (done : Bool) (held held' text : List ℕ) (is_done : Bool) (before now now' : Known)
    → 0 < length line → IsItemAnswer command line text is_done → IsPushed held held' text now now' → IsUnderWay command bytes line done held before now
    → AreAnswered command (lines bytes) (done && is_done) held' before now'
last_line_answered command laws bytes line done held held' text is_done before now now' some answer pushed way =
    let rest_some : 0 < length way.rest = omega (arith, ap length way.kept, length-take line_room way.rest) in
    let right = last_answer command line way.rest text is_done way.kept answer in
    let same : lines bytes ≡ lines way.ended ++ way.rest ∷ [] =
    ap lines way.within.bytes_are ∙ way.goes_on way.rest ∙ ap (λ last. lines way.ended ++ last) (last_line way.rest way.within.no_end rest_some) in
    subst (λ ls. AreAnswered command ls (done && is_done) held' before now') (sym same)
    (one_answered command laws (lines way.ended) done held held' way.rest text is_done before now now' way.answered pushed right)

-- all answers are written
pub told : (command : List ℕ → ItemCommand) (bytes : List ℕ) (done : Bool) (before now : Known) → AreAnswered command (lines bytes) done [] before now → AreAllWritten command bytes before now done
told command bytes done before now answered = record {
  answers = answered.answers;
  right = answered.right;
  all = answered.all;
  was_written = subst (λ text. IsWritten before now text) (sym (answered.text_is ∙ append-nil answered.written)) answered.was_written;
}

-- or the last are cut
pub told_cut : (command : List ℕ → ItemCommand) (laws : WriteLaws) (bytes : List ℕ) (done : Bool) (held : List ℕ) (before now now' : Known)
    → IsCut now now' held → AreAnswered command (lines bytes) done held before now → AreCut command bytes before now'
told_cut command laws bytes done held before now now' cut answered = record {
  first = lines bytes;
  others = [];
  lines_are = sym (append-nil (lines bytes));
  answers = answered.answers;
  right = answered.right;
  cut = answers_cut command laws (lines bytes) done held before now now' answered cut;
}
