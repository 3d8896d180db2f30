-- What a service does with a stream, from what it does with each part of it.
use Rattle.std.proofs.Common.{◌≡◌, ℕ, ◌+◌, List, [], ◌∷◌, ◌++◌, ◌⊎◌, Bool, false, IsTrue, take, drop, inl, inr, refl, sym, ap, subst, ◌∙◌, arith, length-append, append_assoc, append-nil}
use Rattle.std.specs.List.{concat}
use Rattle.std.proofs.Math.Seq.{take-add}
use Rattle.std.proofs.lemmas.List.{take-append-drop}
use Rattle.std.proofs.lemmas.List.Folds.{concat-append}
use Rattle.std.proofs.lemmas.List.Elements.{All-append, All-cons, All-nil}
use Rattle.duk_frame.specs.Feeder.{Feeding, HandsOutFrame, TakesAll}
use Rattle.duk_frame.specs.Stream.{BeginsTooLong, BeginsWith, IsFrame}
use Rattle.duk_io.specs.Known.{Known}
use Rattle.duk_io.specs.Sink.{IsWritten}
use Rattle.duk_host.specs.Host.{HostMeaning, HostOf}
use Rattle.duk_host.specs.Serve.{AnswerFailed, BytesFailed, FailsAtFrame, FailsAtLength, IsServed, Serves, Service}
use Rattle.duk_host.specs.inner.Serve.{IsAnswerWritten, IsFrameServed, IsPieceHeld}
use Rattle.duk_host.specs.declared.fault.HostFault.{HostFault}
use Rattle.duk_host.specs.declared.fault.HostFault.TheVariants as fault

-- what writes leave that come one after another
pub record WriteLaws : Type 0 where
  pub none : (now : Known) → IsWritten now now []
  pub next : (before between after : Known) (first second : List ℕ) → IsWritten before between first → IsWritten between after second → IsWritten before after (first ++ second)

-- frames in turn, and then others
pub serves_then :
    {L I : Type 0} (meaning : HostMeaning L I) (old mid new : HostOf L I) (frames answers others more : List (List ℕ))
    → Serves meaning old frames answers mid → Serves meaning mid others more new → Serves meaning old (frames ++ others) (answers ++ more) new
serves_then meaning old mid new [] [] others more first second = subst (λ host. Serves meaning host others more new) first second
serves_then meaning old mid new [] (answer ∷ answers) others more first second = absurd first
serves_then meaning old mid new (frame ∷ frames) [] others more first second = absurd first
serves_then meaning old mid new (frame ∷ frames) (answer ∷ answers) others more first second =
    (first.0, first.1, serves_then meaning first.0 mid new frames answers others more first.2 second)

begins_then : (bytes rest piece last : List ℕ) (frames others : List (List ℕ)) → BeginsWith bytes frames rest → BeginsWith (rest ++ piece) others last → BeginsWith (bytes ++ piece) (frames ++ others) last
begins_then bytes rest piece last frames others first second = record {
  whole =
      ap (λ front. front ++ piece) first.whole
      ∙ append_assoc (concat frames) rest piece
      ∙ ap (λ following. concat frames ++ following) second.whole
      ∙ sym (append_assoc (concat frames) (concat others) last)
      ∙ ap (λ front. front ++ last) (sym (concat-append frames others));
  each = All-append IsFrame frames others first.each second.each;
}

-- nothing is served of bytes that are still to come
pub served_none : {L I : Type 0} (meaning : HostMeaning L I) → WriteLaws → (now : Service L I) (bytes : List ℕ) → IsServed meaning now now bytes bytes 0
served_none meaning laws now bytes = record {
  frames = [];
  answers = [];
  begins = record { whole = refl; each = All-nil IsFrame };
  counted = refl;
  serves = refl;
  written = laws.none now.writer;
}

-- bytes are served, and then others
pub served_then :
    {L I : Type 0} (meaning : HostMeaning L I) → WriteLaws → (old mid new : Service L I) (bytes rest piece last : List ℕ) (count more : ℕ)
    → IsServed meaning old mid bytes rest count → IsServed meaning mid new (rest ++ piece) last more → IsServed meaning old new (bytes ++ piece) last (count + more)
served_then meaning laws old mid new bytes rest piece last count more first second = record {
  frames = first.frames ++ second.frames;
  answers = first.answers ++ second.answers;
  begins = begins_then bytes rest piece last first.frames second.frames first.begins second.begins;
  counted = omega (arith, length-append first.frames second.frames, first.counted, second.counted);
  serves = serves_then meaning old.host mid.host new.host first.frames first.answers second.frames second.answers first.serves second.serves;
  written =
      subst (λ text. IsWritten old.writer new.writer text) (sym (concat-append first.answers second.answers))
      (laws.next old.writer mid.writer new.writer (concat first.answers) (concat second.answers) first.written second.written);
}

-- a frame is served by its answer
pub served_one : {L I : Type 0} (meaning : HostMeaning L I) (old new : Service L I) (frame : List ℕ) → IsFrame frame → IsAnswerWritten meaning old new frame → IsServed meaning old new frame [] 1
served_one meaning old new frame is answered = record {
  frames = frame ∷ [];
  answers = answered.answer ∷ [];
  begins = record {
    whole = sym (append-nil frame) ∙ sym (append-nil (frame ++ []));
    each = All-cons IsFrame frame [] is (All-nil IsFrame);
  };
  counted = refl;
  serves = (new.host, answered.answers, refl);
  written = subst (λ text. IsWritten old.writer new.writer text) (sym (append-nil answered.answer)) answered.written;
}

-- bytes are served, and then one fails
fails_later :
    {L I : Type 0} (meaning : HostMeaning L I) → WriteLaws → (old mid new : Service L I) (bytes rest piece : List ℕ) (count : ℕ) (why : HostFault)
    → IsServed meaning old mid bytes rest count → FailsAtFrame meaning mid new (rest ++ piece) why → FailsAtFrame meaning old new (bytes ++ piece) why
fails_later meaning laws old mid new bytes rest piece count why first fails = record {
  mid = fails.mid;
  frame = fails.frame;
  rest = fails.rest;
  count = count + fails.count;
  served = served_then meaning laws old mid fails.mid bytes rest piece (fails.frame ++ fails.rest) count fails.count first fails.served;
  is_frame = fails.is_frame;
  failed = fails.failed;
}

-- bytes are served, and then others are not
pub failed_later :
    {L I : Type 0} (meaning : HostMeaning L I) → WriteLaws → (old mid new : Service L I) (bytes rest piece : List ℕ) (count : ℕ) (why : HostFault)
    → IsServed meaning old mid bytes rest count → BytesFailed meaning mid new (rest ++ piece) why → BytesFailed meaning old new (bytes ++ piece) why
failed_later meaning laws old mid new bytes rest piece count fault.NoMemory first fails = fails_later meaning laws old mid new bytes rest piece count fault.NoMemory first fails
failed_later meaning laws old mid new bytes rest piece count (fault.Store why) first fails = fails_later meaning laws old mid new bytes rest piece count (fault.Store why) first fails
failed_later meaning laws old mid new bytes rest piece count fault.Stopped first fails = fails_later meaning laws old mid new bytes rest piece count fault.Stopped first fails
failed_later meaning laws old mid new bytes rest piece count fault.Read first fails = fails_later meaning laws old mid new bytes rest piece count fault.Read first fails
failed_later meaning laws old mid new bytes rest piece count fault.Write first fails = fails_later meaning laws old mid new bytes rest piece count fault.Write first fails
failed_later meaning laws old mid new bytes rest piece count fault.Truncated first fails = fails_later meaning laws old mid new bytes rest piece count fault.Truncated first fails
failed_later meaning laws old mid new bytes rest piece count fault.TooLong first fails = record {
  rest = fails.rest;
  count = count + fails.count;
  served = served_then meaning laws old mid new bytes rest piece fails.rest count fails.count first fails.served;
  too_long = fails.too_long;
}

fails_here :
    {L I : Type 0} (meaning : HostMeaning L I) → WriteLaws → (old new : Service L I) (bytes frame rest : List ℕ) (why : HostFault)
    → bytes ≡ frame ++ rest → IsFrame frame → AnswerFailed meaning old new frame why → FailsAtFrame meaning old new bytes why
fails_here meaning laws old new bytes frame rest why whole is failed = record {
  mid = old;
  frame = frame;
  rest = rest;
  count = 0;
  served = subst (λ following. IsServed meaning old old bytes following 0) whole (served_none meaning laws old bytes);
  is_frame = is;
  failed = failed;
}

-- the first frame is not answered
pub failed_here :
    {L I : Type 0} (meaning : HostMeaning L I) → WriteLaws → (old new : Service L I) (bytes frame rest : List ℕ) (why : HostFault)
    → bytes ≡ frame ++ rest → IsFrame frame → AnswerFailed meaning old new frame why → BytesFailed meaning old new bytes why
failed_here meaning laws old new bytes frame rest fault.NoMemory whole is failed = fails_here meaning laws old new bytes frame rest fault.NoMemory whole is failed
failed_here meaning laws old new bytes frame rest (fault.Store why) whole is failed = fails_here meaning laws old new bytes frame rest (fault.Store why) whole is failed
failed_here meaning laws old new bytes frame rest fault.Stopped whole is failed = fails_here meaning laws old new bytes frame rest fault.Stopped whole is failed
failed_here meaning laws old new bytes frame rest fault.Read whole is failed = fails_here meaning laws old new bytes frame rest fault.Read whole is failed
failed_here meaning laws old new bytes frame rest fault.Write whole is failed = fails_here meaning laws old new bytes frame rest fault.Write whole is failed
failed_here meaning laws old new bytes frame rest fault.Truncated whole is failed = fails_here meaning laws old new bytes frame rest fault.Truncated whole is failed
failed_here meaning laws old new bytes frame rest fault.TooLong whole is failed = absurd failed.refused

-- ---- the parts of a piece

-- the first frame that ends in a piece is answered
pub frame_served :
    {L I : Type 0} (meaning : HostMeaning L I) (old new : Service L I) (before after : Feeding) (piece : List ℕ) (taken : ℕ) (frame : List ℕ)
    → HandsOutFrame before after piece taken frame → IsAnswerWritten meaning old new frame → IsFrameServed meaning old new before after piece taken
frame_served meaning old new before after piece taken frame out answered =
    let is : IsFrame frame = subst IsFrame (sym out.whole) out.ends.is_frame in
    record {
      least = out.ends.least;
      within = out.ends.within;
      served =
          subst (λ rest. IsServed meaning old new (before.rest ++ take taken piece) rest 1) (sym out.nothing_left)
          (subst (λ bytes. IsServed meaning old new bytes [] 1) out.whole (served_one meaning old new frame is answered));
    }

-- no frame ends in a piece
pub piece_held :
    {L I : Type 0} (meaning : HostMeaning L I) → WriteLaws → (now : Service L I) (before after : Feeding) (piece : List ℕ) (taken : ℕ)
    → TakesAll before after piece taken → IsPieceHeld meaning now now before after piece
piece_held meaning laws now before after piece taken all = record {
  served = subst (λ rest. IsServed meaning now now (before.rest ++ piece) rest 0) (sym all.rest_is) (served_none meaning laws now (before.rest ++ piece));
  is_part = all.is_part;
}

-- the first frame that ends in a piece is not answered
pub frame_failed :
    {L I : Type 0} (meaning : HostMeaning L I) → WriteLaws → (old new : Service L I) (before after : Feeding) (piece : List ℕ) (taken : ℕ) (frame : List ℕ) (why : HostFault)
    → HandsOutFrame before after piece taken frame → AnswerFailed meaning old new frame why → BytesFailed meaning old new (before.rest ++ piece) why
frame_failed meaning laws old new before after piece taken frame why out failed =
    let is : IsFrame frame = subst IsFrame (sym out.whole) out.ends.is_frame in
    let whole : before.rest ++ piece ≡ frame ++ drop taken piece =
    ap (λ following. before.rest ++ following) (sym (take-append-drop taken piece))
    ∙ sym (append_assoc before.rest (take taken piece) (drop taken piece))
    ∙ ap (λ front. front ++ drop taken piece) (sym out.whole) in
    failed_here meaning laws old new (before.rest ++ piece) frame (drop taken piece) why whole is failed

-- a length above 62 follows at once
pub fails_at_length :
    {L I : Type 0} (meaning : HostMeaning L I) → WriteLaws → (now : Service L I) (failed : Bool) (bytes : List ℕ)
    → failed ≡ false → IsTrue failed ⊎ BeginsTooLong bytes → FailsAtLength meaning now now bytes
fails_at_length meaning laws now failed bytes not (inl is) = absurd (cc (not, is))
fails_at_length meaning laws now failed bytes not (inr begins) = record {
  rest = bytes;
  count = 0;
  served = served_none meaning laws now bytes;
  too_long = begins;
}

-- ---- a piece, frame by frame

-- what is before a place, and the piece from there on
whole_piece : (head piece : List ℕ) (done : ℕ) → (head ++ take done piece) ++ drop done piece ≡ head ++ piece
whole_piece head piece done =
    append_assoc head (take done piece) (drop done piece) ∙ ap (λ piece. head ++ piece) (take-append-drop done piece)

-- before the first frame of a piece
pub start_piece : {L I : Type 0} (meaning : HostMeaning L I) → WriteLaws → (now : Service L I) (head : List ℕ) → IsServed meaning now now (head ++ []) head 0
start_piece meaning laws now head = subst (λ bytes. IsServed meaning now now bytes head 0) (sym (append-nil head)) (served_none meaning laws now head)

-- one more frame of a piece is served
pub next_frame :
    {L I : Type 0} (meaning : HostMeaning L I) → WriteLaws → (start mid new : Service L I) (head : List ℕ) (before after : Feeding) (piece : List ℕ) (done taken count : ℕ)
    → IsServed meaning start mid (head ++ take done piece) before.rest count → IsFrameServed meaning mid new before after (drop done piece) taken
    → IsServed meaning start new (head ++ take (done + taken) piece) after.rest (count + 1)
next_frame meaning laws start mid new head before after piece done taken count first one =
    let joined : (head ++ take done piece) ++ take taken (drop done piece) ≡ head ++ take (done + taken) piece =
    append_assoc head (take done piece) (take taken (drop done piece)) ∙ ap (λ front. head ++ front) (sym (take-add done taken piece)) in
    subst (λ bytes. IsServed meaning start new bytes after.rest (count + 1)) joined
    (served_then meaning laws start mid new (head ++ take done piece) before.rest (take taken (drop done piece)) after.rest count 1 first one.served)

-- no further frame ends in a piece
pub last_of_piece :
    {L I : Type 0} (meaning : HostMeaning L I) → WriteLaws → (start mid new : Service L I) (head : List ℕ) (before after : Feeding) (piece : List ℕ) (done count : ℕ)
    → IsServed meaning start mid (head ++ take done piece) before.rest count → IsPieceHeld meaning mid new before after (drop done piece)
    → IsServed meaning start new (head ++ piece) after.rest count
last_of_piece meaning laws start mid new head before after piece done count first held =
    let none : count + 0 ≡ count = omega arith in
    subst (λ count. IsServed meaning start new (head ++ piece) after.rest count) none
    (subst (λ bytes. IsServed meaning start new bytes after.rest (count + 0)) (whole_piece head piece done)
    (served_then meaning laws start mid new (head ++ take done piece) before.rest (drop done piece) after.rest count 0 first held.served))

-- a further frame of a piece is not served
pub later_frame_failed :
    {L I : Type 0} (meaning : HostMeaning L I) → WriteLaws → (start mid new : Service L I) (head rest piece : List ℕ) (done count : ℕ) (why : HostFault)
    → IsServed meaning start mid (head ++ take done piece) rest count → BytesFailed meaning mid new (rest ++ drop done piece) why
    → BytesFailed meaning start new (head ++ piece) why
later_frame_failed meaning laws start mid new head rest piece done count why first failed =
    subst (λ bytes. BytesFailed meaning start new bytes why) (whole_piece head piece done)
    (failed_later meaning laws start mid new (head ++ take done piece) rest (drop done piece) count why first failed)
