-- What `show` prints of a frame (this project's own, over its frames).
use Rattle.std.specs.Prelude.{◌≡◌, ◌⊎◌, ◌≤◌, ◌+◌, ◌==◌, if◌then◌else◌, ⊤, ℕ, List, ◌++◌, codes, decimal, drop, length, slice_index, take}
use Rattle.duk_block.specs.Hexadecimal.{IsHexadecimal}
use Rattle.duk_commands.specs.Lines.{named_line, text_line}
use Rattle.duk_frame.specs.Answer.{IsAnswer}
use Rattle.duk_frame.specs.Code.{code_text}
use Rattle.duk_frame.specs.Request.{IsRequest}
use Rattle.duk_frame.specs.Stream.{said_length}
use Rattle.duk_frame.specs.declared.answer.AnswerFrame.{AnswerFrame}
use Rattle.duk_frame.specs.declared.answer.AnswerFrame.TheVariants as answer
use Rattle.duk_frame.specs.declared.code.Code.{Code}
use Rattle.duk_frame.specs.declared.code.Code.TheVariants.{Approved, NoCard, WrongPin, OverLimit, Unreadable}
use Rattle.duk_frame.specs.declared.request.Request.{Request}
use Rattle.duk_io.specs.FirstFault.{IsFirst}
use Rattle.duk_reversal.specs.Numbers.{Reverses}
use Rattle.duk_reversal.specs.Reply.{IsReversalReply}
use Rattle.duk_reversal.specs.Reversal.{IsReversal}
use Rattle.duk_reversal.specs.declared.reply.ReversalReply.{ReversalReply}
use Rattle.duk_reversal.specs.declared.reversal.Reversal.{Reversal}
use Rattle.duk_reversal.specs.declared.state.ReversalState.{ReversalState}
use Rattle.duk_reversal.specs.declared.state.ReversalState.TheVariants.{Undone, NoneStands}
use Rattle.duk_tree.specs.Serial.{Serial, serial_bytes, serial_of_bytes}
use Rattle.duk_show.specs.FrameFault.{frame_place}
use Rattle.duk_show.specs.Hexadecimal.{IsNoDigitAt}
use Rattle.duk_show.specs.declared.fault.ShowFault.{ShowFault}
use Rattle.duk_show.specs.declared.fault.ShowFault.TheVariants.{FrameRefused, OutOfMemory}
use Rattle.duk_show.specs.declared.frame_fault.FrameFault.{FrameFault}
use Rattle.duk_show.specs.declared.frame_fault.FrameFault.TheVariants as fault

-- a code in words
abbrev pub code_words : Code → List ℕ
code_words Approved = codes "approved"
code_words NoCard = codes "no such card"
code_words WrongPin = codes "wrong PIN"
code_words OverLimit = codes "over the card's limit"
code_words Unreadable = codes "PIN block unreadable"

-- a reason, which is a number from 1 to 6, in words
abbrev pub reason_words : ℕ → List ℕ
reason_words reason =
    if reason == 1 then codes "malformed"
    else if reason == 2 then codes "unknown key set"
    else if reason == 3 then codes "bad counter"
    else if reason == 4 then codes "bad MAC"
    else if reason == 5 then codes "used"
    else codes "log full"

-- the lines of a request; its PIN block is enciphered
abbrev pub request_lines : Request → List ℕ
request_lines request =
    text_line (codes "frame") (codes "request")
    ++ named_line (codes "ksn") (serial_bytes request.ksn)
    ++ text_line (codes "pan") request.pan
    ++ text_line (codes "amount") (decimal request.amount)
    ++ named_line (codes "pin-block") request.block
    ++ named_line (codes "mac") request.mac

-- the lines of an answer
abbrev pub answer_lines : AnswerFrame → List ℕ
answer_lines (answer.Reply ksn code mac) =
    text_line (codes "frame") (codes "reply")
    ++ named_line (codes "ksn") (serial_bytes ksn)
    ++ text_line (codes "code") (code_text code ++ codes " " ++ code_words code)
    ++ named_line (codes "mac") mac
answer_lines (answer.Refusal ksn reason) =
    text_line (codes "frame") (codes "refusal")
    ++ named_line (codes "ksn") (serial_bytes ksn)
    ++ text_line (codes "reason") (decimal reason ++ codes " " ++ reason_words reason)

-- what a reversal found: the state's byte, and what it says in words
abbrev pub state_words : ReversalState → List ℕ
state_words Undone = codes "01 undone"
state_words NoneStands = codes "00 none stands"

-- the lines of a reversal: the number that it uses, and the one that it reverses
abbrev pub reversal_lines : Reversal → List ℕ
reversal_lines reversal =
    text_line (codes "frame") (codes "reversal")
    ++ named_line (codes "ksn") (serial_bytes reversal.numbers.ksn)
    ++ named_line (codes "reversed") (serial_bytes reversal.numbers.reversed)
    ++ named_line (codes "mac") reversal.mac

-- the lines of a reversal's reply
abbrev pub reversal_reply_lines : ReversalReply → List ℕ
reversal_reply_lines reply =
    text_line (codes "frame") (codes "reversal-reply")
    ++ named_line (codes "ksn") (serial_bytes reply.numbers.ksn)
    ++ named_line (codes "reversed") (serial_bytes reply.numbers.reversed)
    ++ text_line (codes "state") (state_words reply.state)
    ++ named_line (codes "mac") reply.mac

-- the bytes are the frame of a request, and these are its lines
pub record IsRequestShown (bytes text : List ℕ) : Type 0 where
  pub request : Request
  pub is_request : IsRequest bytes request
  pub text_is : text ≡ request_lines request

-- the bytes are the frame of an answer, and these are its lines
pub record IsAnswerShown (bytes text : List ℕ) : Type 0 where
  pub answer : AnswerFrame
  pub is_answer : IsAnswer bytes answer
  pub text_is : text ≡ answer_lines answer

-- the bytes are the frame of a reversal, and these are its lines
pub record IsReversalShown (bytes text : List ℕ) : Type 0 where
  pub reversal : Reversal
  pub is_reversal : IsReversal bytes reversal
  pub text_is : text ≡ reversal_lines reversal

-- the bytes are the frame of a reversal's reply, and these are its lines
pub record IsReversalReplyShown (bytes text : List ℕ) : Type 0 where
  pub reply : ReversalReply
  pub is_reply : IsReversalReply bytes reply
  pub text_is : text ≡ reversal_reply_lines reply

-- the bytes are a frame of one of these kinds, and these are its lines
abbrev pub IsBytesShown : List ℕ → List ℕ → Type 0
IsBytesShown bytes text = (IsRequestShown bytes text ⊎ IsAnswerShown bytes text)
    ⊎ (IsReversalShown bytes text ⊎ IsReversalReplyShown bytes text)

-- a text is a frame in hexadecimal, and these are its lines
pub record IsFrameText (frame text : List ℕ) : Type 0 where
  pub bytes : List ℕ
  pub read : IsHexadecimal frame bytes
  pub shown : IsBytesShown bytes text

-- the byte that says the kind of a frame: 1 of a request, 2 of a reply, 3 of a refusal, 4 of a
-- reversal, 5 of its reply
abbrev pub kind_in : List ℕ → ℕ
kind_in bytes = slice_index bytes 3

-- the bytes that a frame of a kind has, with its length: a request has 12 to 19 digits
abbrev pub IsSizeOfKind : ℕ → ℕ → Type 0
IsSizeOfKind kind size = ((kind ≡ 1) × (47 ≤ size) × (size ≤ 54))
    ⊎ (((kind ≡ 2) × (size ≡ 24)) ⊎ (((kind ≡ 3) × (size ≡ 15))
    ⊎ (((kind ≡ 4) × (size ≡ 32)) ⊎ ((kind ≡ 5) × (size ≡ 33)))))

-- the key serial number that begins at this byte
abbrev pub number_at : ℕ → List ℕ → Serial
number_at place bytes = serial_of_bytes (take 10 (drop place bytes))

-- what bytes must meet, or else are refused with this fault; the last one of each kind is that they
-- are a frame
abbrev pub MeetsFrame : List ℕ → FrameFault → Type 0
MeetsFrame bytes fault.Hex = ⊤
MeetsFrame bytes fault.Length = said_length bytes + 2 ≡ length bytes
MeetsFrame bytes fault.Version = slice_index bytes 2 ≡ 1
MeetsFrame bytes fault.Kind = (1 ≤ kind_in bytes) × (kind_in bytes ≤ 5)
MeetsFrame bytes fault.Size = IsSizeOfKind (kind_in bytes) (length bytes)
MeetsFrame bytes fault.PanLength = kind_in bytes ≡ 1 → slice_index bytes 14 + 35 ≡ length bytes
MeetsFrame bytes fault.PanDigit = kind_in bytes ≡ 1 → (request : Request) × IsRequest bytes request
MeetsFrame bytes fault.Code = kind_in bytes ≡ 2 → (answer : AnswerFrame) × IsAnswer bytes answer
MeetsFrame bytes fault.Reason = kind_in bytes ≡ 3 → (answer : AnswerFrame) × IsAnswer bytes answer
MeetsFrame bytes fault.Reversed =
    (kind_in bytes ≡ 4 → (reversal : Reversal) × IsReversal bytes reversal)
    × (kind_in bytes ≡ 5 → Reverses (number_at 4 bytes) (number_at 14 bytes))
MeetsFrame bytes fault.State =
    kind_in bytes ≡ 5 → (reply : ReversalReply) × IsReversalReply bytes reply

-- the order of the fields
abbrev pub frame_rank : FrameFault → ℕ
frame_rank fault.Hex = 0
frame_rank fault.Length = 1
frame_rank fault.Version = 2
frame_rank fault.Kind = 3
frame_rank fault.Size = 4
frame_rank fault.PanLength = 5
frame_rank fault.PanDigit = 6
frame_rank fault.Code = 6
frame_rank fault.Reason = 6
frame_rank fault.Reversed = 6
frame_rank fault.State = 7

-- the first wrong field of bytes that are no frame
abbrev pub IsFrameFault : List ℕ → FrameFault → Type 0
IsFrameFault bytes =
    IsFirst frame_rank (MeetsFrame bytes) (λ why. ¬ MeetsFrame bytes why)

-- the bytes that a text writes have this wrong field, which begins at this place
pub record IsFieldWrongAt (frame : List ℕ) (place : ℕ) (why : FrameFault) : Type 0 where
  pub bytes : List ℕ
  pub read : IsHexadecimal frame bytes
  pub wrong : IsFrameFault bytes why
  pub place_is : place ≡ frame_place why

-- where the reading of a text as a frame stops, and why
abbrev pub StopsFrame : List ℕ → ℕ → FrameFault → Type 0
StopsFrame frame place fault.Hex =
    IsNoDigitAt frame place × ((bytes : List ℕ) → ¬ IsHexadecimal frame bytes)
StopsFrame frame place why = IsFieldWrongAt frame place why

-- why a text is not shown as a frame; memory for its bytes may be refused
abbrev pub IsFrameRefused : List ℕ → ShowFault → Type 0
IsFrameRefused frame (FrameRefused place why) =
    StopsFrame frame place why × ((text : List ℕ) → ¬ IsFrameText frame text)
IsFrameRefused frame OutOfMemory = ⊤
IsFrameRefused frame why = ⊥
