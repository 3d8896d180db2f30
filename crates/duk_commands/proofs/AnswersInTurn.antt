-- The answers to lines, one after the other.
use Rattle.std.proofs.Common.{◌≡◌, ℕ, Bool, true, false, ◌&&◌, List, [], ◌∷◌, ◌++◌, refl, sym, ap, ◌∙◌, append_assoc, append-nil}
use Rattle.std.specs.List.{list_all}
use Rattle.std.proofs.lemmas.List.{map-append}
use Rattle.std.proofs.lemmas.List.Concat.{flat_map-append}
use Rattle.std.proofs.lemmas.List.Elements.{All-nil, All-push}
use Rattle.std.proofs.lemmas.List.Folds.{list_all-append}
use Rattle.duk_io.specs.Known.{Known}
use Rattle.duk_io.specs.Sink.{IsCut, IsWritten}
use Rattle.duk_commands.specs.Item.{AreAnswers, IsItemAnswer, ItemAnswer, ItemCommand, text_of}
use Rattle.duk_commands.specs.inner.Batch.{AreAnswered, IsPushed}

-- what the laws of writing say
pub record WriteLaws : Type 0 where
  pub none : (now : Known) → IsWritten now now []
  pub next : (before between after : Known) (first second : List ℕ) → IsWritten before between first → IsWritten between after second → IsWritten before after (first ++ second)
  pub cut : (before between after : Known) (first second : List ℕ) → IsWritten before between first → IsCut between after second → IsCut before after (first ++ second)

-- no line has come
pub none_answered : (command : List ℕ → ItemCommand) (laws : WriteLaws) (now : Known) → AreAnswered command [] true [] now now
none_answered command laws now = record {
  answers = [];
  right = record { in_turn = refl; each = All-nil _ };
  all = refl;
  written = [];
  text_is = refl;
  was_written = laws.none now;
}

answers_more : (command : List ℕ → ItemCommand) (lines : List (List ℕ)) (answers : List ItemAnswer) (line text : List ℕ) (done : Bool)
    → AreAnswers command lines answers → IsItemAnswer command line text done
    → AreAnswers command (lines ++ line ∷ []) (answers ++ record { line = line; text = text; done = done } ∷ [])
answers_more command lines answers line text done right answer =
    let last : ItemAnswer = record { line = line; text = text; done = done } in
    record {
      in_turn = map-append (λ a. a.line) answers (last ∷ []) ∙ ap (λ front. front ++ line ∷ []) right.in_turn;
      each = All-push (λ a. IsItemAnswer command a.line a.text a.done) answers last right.each answer;
    }

and_true : (b : Bool) → (b && true) ≡ b
and_true true = refl
and_true false = refl

-- one line more is answered, and its answer is held back
pub one_answered : (command : List ℕ → ItemCommand) (laws : WriteLaws) (lines : List (List ℕ)) (done : Bool) (held held' line text : List ℕ) (is_done : Bool) (before now now' : Known)
    → AreAnswered command lines done held before now → IsPushed held held' text now now' → IsItemAnswer command line text is_done
    → AreAnswered command (lines ++ line ∷ []) (done && is_done) held' before now'
one_answered command laws lines done held held' line text is_done before now now' so_far pushed answer =
    let last : ItemAnswer = record { line = line; text = text; done = is_done } in
    record {
      answers = so_far.answers ++ last ∷ [];
      right = answers_more command lines so_far.answers line text is_done so_far.right answer;
      all =
          ap (λ b. b && is_done) so_far.all ∙ ap (λ b. list_all (λ a. a.done) so_far.answers && b) (sym (and_true is_done))
          ∙ sym (list_all-append (λ a. a.done) so_far.answers (last ∷ []));
      written = so_far.written ++ pushed.drained.front;
      text_is =
          flat_map-append (λ a. a.text) so_far.answers (last ∷ []) ∙ ap (λ t. text_of so_far.answers ++ t) (append-nil text)
          ∙ ap (λ t. t ++ text) (so_far.text_is ∙ ap (λ h. so_far.written ++ h) pushed.drained.split ∙ sym (append_assoc so_far.written pushed.drained.front pushed.left))
          ∙ append_assoc (so_far.written ++ pushed.drained.front) pushed.left text
          ∙ ap (λ h. (so_far.written ++ pushed.drained.front) ++ h) (sym pushed.more);
      was_written = laws.next before now now' so_far.written pushed.drained.front so_far.was_written pushed.drained.written;
    }

-- what was held back is written
pub all_written : (command : List ℕ → ItemCommand) (laws : WriteLaws) (lines : List (List ℕ)) (done : Bool) (held : List ℕ) (before now now' : Known)
    → AreAnswered command lines done held before now → IsWritten now now' held → AreAnswered command lines done [] before now'
all_written command laws lines done held before now now' so_far written = record {
  answers = so_far.answers;
  right = so_far.right;
  all = so_far.all;
  written = so_far.written ++ held;
  text_is = so_far.text_is ∙ sym (append-nil (so_far.written ++ held));
  was_written = laws.next before now now' so_far.written held so_far.was_written written;
}

-- or it is cut
pub answers_cut : (command : List ℕ → ItemCommand) (laws : WriteLaws) (lines : List (List ℕ)) (done : Bool) (held : List ℕ) (before now now' : Known)
    → (so_far : AreAnswered command lines done held before now) → IsCut now now' held → IsCut before now' (text_of so_far.answers)
answers_cut command laws lines done held before now now' so_far cut =
    rw so_far.text_is (laws.cut before now now' so_far.written held so_far.was_written cut)
