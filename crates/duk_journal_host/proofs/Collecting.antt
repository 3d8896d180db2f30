-- The frames that end in a piece, from what a feeder hands out.
use Rattle.std.proofs.Common.{◌≡◌, ◌<◌, ℕ, ◌+◌, List, [], ◌∷◌, ◌++◌, ◌⊎◌, get_or, map, Bool, false, IsTrue, Result, Ok, Err, OnErr, inl, inr, length, take, drop, refl, sym, ap, subst, ◌∙◌, arith, append_assoc, append-nil}
use Rattle.std.specs.List.{concat}
use Rattle.std.proofs.Math.Seq.{take-add}
use Rattle.std.proofs.lemmas.List.{map-append, take-append-drop, take_more}
use Rattle.std.proofs.lemmas.List.Elements.{All-append, All-cons, All-nil}
use Rattle.std.proofs.lemmas.List.Folds.{concat-append}
use Rattle.duk_frame.specs.Feeder.{Feeding, HandsOutFrame, TakesAll}
use Rattle.duk_frame.specs.Stream.{BeginsTooLong, BeginsWith, IsFrame}
use Rattle.duk_journal_host.specs.inner.Serve.{AreBeforeTooLong, AreCollected}

-- what follows bytes that begin with frames
begins_more : (bytes rest more : List ℕ) (frames : List (List ℕ)) → BeginsWith bytes frames rest → BeginsWith (bytes ++ more) frames (rest ++ more)
begins_more bytes rest more frames begins = record {
  whole = ap (λ front. front ++ more) begins.whole ∙ append_assoc (concat frames) rest more;
  each = begins.each;
}

-- before the first frame
pub begins_here : (rest piece : List ℕ) → BeginsWith (rest ++ take 0 piece) [] rest
begins_here rest piece = record { whole = append-nil rest; each = All-nil IsFrame }

-- one frame more
pub begins_next :
    (head piece : List ℕ) (before after : Feeding) (done taken : ℕ) (frames : List (List ℕ)) (frame : List ℕ)
    → BeginsWith (head ++ take done piece) frames before.rest → HandsOutFrame before after (drop done piece) taken frame
    → BeginsWith (head ++ take (done + taken) piece) (frames ++ frame ∷ []) after.rest
begins_next head piece before after done taken frames frame begins out = record {
  whole =
      ap (λ front. head ++ front) (take-add done taken piece)
      ∙ sym (append_assoc head (take done piece) (take taken (drop done piece)))
      ∙ ap (λ front. front ++ take taken (drop done piece)) begins.whole
      ∙ append_assoc (concat frames) before.rest (take taken (drop done piece))
      ∙ ap (λ frame. concat frames ++ frame) (sym out.whole)
      ∙ ap (λ frame. concat frames ++ frame) (sym (append-nil frame))
      ∙ sym (concat-append frames (frame ∷ []))
      ∙ sym (append-nil (concat (frames ++ frame ∷ [])))
      ∙ ap (λ rest. concat (frames ++ frame ∷ []) ++ rest) (sym out.nothing_left);
  each = All-append IsFrame frames (frame ∷ []) begins.each (All-cons IsFrame frame [] (subst IsFrame (sym out.whole) out.ends.is_frame) (All-nil IsFrame));
}

-- what is before a place, and the piece from there on
pub whole_piece : (head piece : List ℕ) (done : ℕ) → (head ++ take done piece) ++ drop done piece ≡ head ++ piece
whole_piece head piece done =
    append_assoc head (take done piece) (drop done piece) ∙ ap (λ piece. head ++ piece) (take-append-drop done piece)

pub begins_whole : (head rest piece : List ℕ) (done : ℕ) (frames : List (List ℕ)) → BeginsWith (head ++ take done piece) frames rest → BeginsWith (head ++ piece) frames (rest ++ drop done piece)
begins_whole head rest piece done frames begins =
    subst (λ bytes. BeginsWith bytes frames (rest ++ drop done piece)) (whole_piece head piece done) (begins_more (head ++ take done piece) rest (drop done piece) frames begins)

take_whole : (piece : List ℕ) → take (length piece) piece ≡ piece
take_whole [] = refl
take_whole (first ∷ piece) = ap (λ piece. first ∷ piece) (take_whole piece)

-- no further frame ends in the piece
pub collected_all :
    (start before after : Feeding) (piece : List ℕ) (done taken : ℕ) (frames : List (List ℕ))
    → BeginsWith (start.rest ++ take done piece) frames before.rest → TakesAll before after (drop done piece) taken → AreCollected start after piece frames (length piece)
collected_all start before after piece done taken frames begins all = record {
  within = omega arith;
  some = λ some. some;
  is_part = all.is_part;
  begins =
      subst (λ rest. BeginsWith (start.rest ++ take (length piece) piece) frames rest) (sym all.rest_is)
      (subst (λ front. BeginsWith (start.rest ++ front) frames (before.rest ++ drop done piece)) (sym (take_whole piece)) (begins_whole start.rest before.rest piece done frames begins));
}

-- a length above 62 follows
pub before_too_long :
    (start before : Feeding) (piece : List ℕ) (done : ℕ) (frames : List (List ℕ))
    → BeginsWith (start.rest ++ take done piece) frames before.rest → BeginsTooLong (before.rest ++ drop done piece) → AreBeforeTooLong start piece frames
before_too_long start before piece done frames begins too_long = record {
  rest = before.rest ++ drop done piece;
  begins = begins_whole start.rest before.rest piece done frames begins;
  too_long = too_long;
}

-- a feeder that goes on refuses only such a length
pub begins_too_long : (failed : Bool) (bytes : List ℕ) → failed ≡ false → IsTrue failed ⊎ BeginsTooLong bytes → BeginsTooLong bytes
begins_too_long failed bytes goes_on (inl is) = absurd (cc (goes_on, is))
begins_too_long failed bytes goes_on (inr begins) = begins

pub on_err : {A B X : Type 0} (result : Result A B) → X → OnErr result X
on_err (Ok value) is = tt
on_err (Err why) is = is

-- one text more
pub joined_next :
    {A : Type 0} (text_of : A → List ℕ) (things : List A) (place : ℕ) (thing : A) → place < length things → get_or things place thing ≡ thing
    → concat (map text_of (take (place + 1) things)) ≡ concat (map text_of (take place things)) ++ text_of thing
joined_next text_of things place thing within is =
    ap (λ things. concat (map text_of things)) (take_more things place thing within)
    ∙ ap (λ texts. concat texts) (map-append text_of (take place things) (get_or things place thing ∷ []))
    ∙ concat-append (map text_of (take place things)) (text_of (get_or things place thing) ∷ [])
    ∙ ap (λ text. concat (map text_of (take place things)) ++ text) (append-nil (text_of (get_or things place thing)))
    ∙ ap (λ thing. concat (map text_of (take place things)) ++ text_of thing) is
