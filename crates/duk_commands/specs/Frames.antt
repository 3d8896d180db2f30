-- What `request` and `reply` make of their arguments (this project's own, over its frames).
use Rattle.std.specs.Prelude.{◌≡◌, ◌⊎◌, ⊤, ℕ, Bool, true, false, List, ◌++◌, codes, decimal, replicate, Some, IsSome, All}
use Rattle.std.specs.Char.{IsAsciiDigit}
use Rattle.hex.specs.Hex.{encode_upper}
use Rattle.duk_block.specs.Hexadecimal.{IsHexadecimal}
use Rattle.duk_commands.specs.Answer.{Command, command_of}
use Rattle.duk_commands.specs.Decimal.{IsDecimal}
use Rattle.duk_commands.specs.Fault.{fault_rank}
use Rattle.duk_commands.specs.KeyArgument.{MeetsKey, initial_from, key_in}
use Rattle.duk_commands.specs.Lines.{named_line, text_line}
use Rattle.duk_commands.specs.declared.fault.Fault.{Fault}
use Rattle.duk_commands.specs.declared.fault.Fault.TheVariants.{AmountRefused, AnswerRefused, BadMac, BdkRefused, CounterRefused, InitialRefused, KsnRefused, NotMine, OutOfMemory, PinRefused, RequestRefused}
use Rattle.duk_commands.specs.declared.key_argument.KeyArgument.{KeyArgument}
use Rattle.duk_frame.specs.Answer.{IsAnswer}
use Rattle.duk_frame.specs.Code.{code_text}
use Rattle.duk_frame.specs.Payment.{payment_reply, payment_request}
use Rattle.duk_frame.specs.Request.{IsRequest}
use Rattle.duk_frame.specs.declared.answer.AnswerFrame.{AnswerFrame}
use Rattle.duk_frame.specs.declared.answer.AnswerFrame.TheVariants as answer
use Rattle.duk_reversal.specs.Authentic.{reversal_reply_under}
use Rattle.duk_reversal.specs.Reply.{IsReversalReply}
use Rattle.duk_reversal.specs.Reversal.{IsReversal}
use Rattle.duk_reversal.specs.declared.reply.ReversalReply.{ReversalReply}
use Rattle.duk_reversal.specs.declared.state.ReversalState.{ReversalState}
use Rattle.duk_reversal.specs.declared.state.ReversalState.TheVariants.{Undone, NoneStands}
use Rattle.duk_io.specs.FirstFault.{IsFirst}
use Rattle.duk_pin.specs.Pan.{HasPanLength, IsPan}
use Rattle.duk_pin.specs.Pin.{HasPinLength, IsPin}
use Rattle.duk_pin.specs.declared.fault.PinFault.TheVariants.{PinLength, PinDigit, PanLength, PanDigit}
use Rattle.duk_commands.specs.Start.{IsStart, MeetsStart}
use Rattle.duk_commands.specs.declared.asked.Asked.{Asked}
use Rattle.duk_commands.specs.declared.asked.Asked.TheVariants as asked
use Rattle.duk_commands.specs.declared.told.Told.{Told}
use Rattle.duk_commands.specs.declared.told.Told.TheVariants as told
use Rattle.duk_tree.specs.Derivation.{response_key_of, transaction_key_of}
use Rattle.duk_tree.specs.Path.{IsUsable}
use Rattle.duk_tree.specs.Serial.{Serial, serial_bytes}

-- the greatest amount: four bytes
abbrev pub most_amount : ℕ
most_amount = 0xFFFF_FFFF

-- the arguments of `request`, as written
pub record RequestArguments : Type 0 where
  pub given : KeyArgument
  pub ksn : List ℕ
  pub pan : List ℕ
  pub pin : List ℕ
  pub amount : List ℕ

-- those arguments
abbrev pub request_arguments : KeyArgument → List ℕ → List ℕ → List ℕ → List ℕ → RequestArguments
request_arguments given ksn pan pin amount =
    record { given = given; ksn = ksn; pan = pan; pin = pin; amount = amount }

-- the arguments are read, and this is the text of the line of the payment's request
pub record IsRequestText (arguments : RequestArguments) (text : List ℕ) : Type 0 where
  pub initial : List ℕ
  pub serial : Serial
  pub amount : ℕ
  pub start : IsStart arguments.given arguments.ksn initial serial
  pub pan_read : IsPan arguments.pan
  pub pin_read : IsPin arguments.pin
  pub amount_read : IsDecimal most_amount arguments.amount amount
  pub text_is : text ≡ named_line (codes "request")
      (payment_request (transaction_key_of initial serial.iksn serial.counter) serial
      arguments.pan arguments.pin amount)

-- the order of the faults of `request`, that of its arguments
abbrev pub request_rank : Fault → ℕ
request_rank BdkRefused = 0
request_rank InitialRefused = 0
request_rank KsnRefused = 1
request_rank CounterRefused = 2
request_rank (PinRefused PanLength) = 3
request_rank (PinRefused PanDigit) = 4
request_rank (PinRefused PinLength) = 5
request_rank (PinRefused PinDigit) = 6
request_rank AmountRefused = 7
request_rank fault = 8

-- what the arguments must meet, or else are refused with this fault
abbrev pub MeetsRequest : RequestArguments → Fault → Type 0
MeetsRequest arguments (PinRefused PanLength) = HasPanLength arguments.pan
MeetsRequest arguments (PinRefused PanDigit) = All IsAsciiDigit arguments.pan
MeetsRequest arguments (PinRefused PinLength) = HasPinLength arguments.pin
MeetsRequest arguments (PinRefused PinDigit) = All IsAsciiDigit arguments.pin
MeetsRequest arguments AmountRefused =
    (amount : ℕ) × IsDecimal most_amount arguments.amount amount
MeetsRequest arguments fault = MeetsStart arguments.given arguments.ksn fault

-- why they are refused: the first of the faults, in their order, whose condition they do not meet
abbrev pub IsRequestRefused : RequestArguments → Fault → Type 0
IsRequestRefused arguments =
    IsFirst request_rank (MeetsRequest arguments) (λ fault. ¬ MeetsRequest arguments fault)

-- the command `request`
abbrev pub request_of : RequestArguments → Command
request_of arguments = command_of (IsRequestText arguments) (IsRequestRefused arguments)

-- the arguments of `reply`, as written
pub record ReplyArguments : Type 0 where
  pub given : KeyArgument
  pub request : List ℕ
  pub answer : List ℕ

-- those arguments
abbrev pub reply_arguments : KeyArgument → List ℕ → List ℕ → ReplyArguments
reply_arguments given request answer = record { given = given; request = request; answer = answer }

-- the bytes are this frame of a terminal: the request of a payment, or a reversal
abbrev pub IsAsked : List ℕ → Asked → Type 0
IsAsked bytes (asked.Payment request) = IsRequest bytes request
IsAsked bytes (asked.Reversal reversal) = IsReversal bytes reversal

-- the number that it uses
abbrev pub number_of : Asked → Serial
number_of (asked.Payment request) = request.ksn
number_of (asked.Reversal reversal) = reversal.numbers.ksn

-- the bytes are this frame of the host: what answers a payment, or a reversal's reply
abbrev pub IsTold : List ℕ → Told → Type 0
IsTold bytes (told.Answer answer) = IsAnswer bytes answer
IsTold bytes (told.Undoing reply) = IsReversalReply bytes reply

-- a text is this frame of a terminal in hexadecimal, of a number of a transaction
pub record WritesAsked (text : List ℕ) (asked : Asked) : Type 0 where
  pub bytes : List ℕ
  pub read : IsHexadecimal text bytes
  pub is_asked : IsAsked bytes asked
  pub usable : IsUsable (number_of asked).counter

-- a text is this frame of the host in hexadecimal
pub record WritesTold (text : List ℕ) (bytes : List ℕ) (told : Told) : Type 0 where
  pub read : IsHexadecimal text bytes
  pub is_told : IsTold bytes told

-- the transaction key of a number, from the key that is given
pub record IsNumberKey (given : KeyArgument) (serial : Serial) (key : List ℕ) : Type 0 where
  pub base : List ℕ
  pub key_read : key_in given ≡ Some base
  pub key_is : key ≡ transaction_key_of (initial_from given base serial.iksn)
      serial.iksn serial.counter

-- the number that a refusal names where the bytes were neither: zeros
abbrev pub no_number : List ℕ
no_number = replicate 10 0

-- an accepted reply answers the payment of its number, and no reversal; a refusal answers what uses
-- its number, or anything where it names none
abbrev pub Answers : AnswerFrame → Asked → Type 0
Answers (answer.Reply other code mac) (asked.Payment request) =
    serial_bytes other ≡ serial_bytes request.ksn
Answers (answer.Reply other code mac) (asked.Reversal reversal) = ⊥
Answers (answer.Refusal other reason) frame =
    (serial_bytes other ≡ serial_bytes (number_of frame)) ⊎ (serial_bytes other ≡ no_number)

-- a reversal's reply answers the reversal with its two numbers, and no payment
abbrev pub Undoes : ReversalReply → Asked → Type 0
Undoes reply (asked.Payment request) = ⊥
Undoes reply (asked.Reversal reversal) =
    (serial_bytes reply.numbers.ksn ≡ serial_bytes reversal.numbers.ksn)
    × (serial_bytes reply.numbers.reversed ≡ serial_bytes reversal.numbers.reversed)

-- what is told is told of what was asked
abbrev pub IsToldOf : Asked → Told → Type 0
IsToldOf frame (told.Answer answer) = Answers answer frame
IsToldOf frame (told.Undoing reply) = Undoes reply frame

-- a reply has its MAC under the transaction key; a refusal has none
abbrev pub HasItsMac : List ℕ → List ℕ → Told → Type 0
HasItsMac key bytes (told.Answer (answer.Reply ksn code mac)) = bytes ≡ payment_reply key ksn code
HasItsMac key bytes (told.Answer (answer.Refusal ksn reason)) = ⊤
HasItsMac key bytes (told.Undoing reply) =
    bytes ≡ reversal_reply_under (response_key_of key) reply.numbers reply.state

-- the line of what answers a payment
abbrev pub answer_line : AnswerFrame → List ℕ
answer_line (answer.Reply ksn code mac) =
    text_line (codes "accepted") (encode_upper (serial_bytes ksn) ++ codes " " ++ code_text code)
answer_line (answer.Refusal ksn reason) =
    text_line (codes "refused") (encode_upper (serial_bytes ksn) ++ codes " " ++ decimal reason)

-- what a reversal found of the number that it reverses
abbrev pub state_name : ReversalState → List ℕ
state_name Undone = codes "undone"
state_name NoneStands = codes "none stands"

-- the line of what is told: of a reversal's reply it has the number that is reversed
abbrev pub told_line : Told → List ℕ
told_line (told.Answer answer) = answer_line answer
told_line (told.Undoing reply) =
    named_line (state_name reply.state) (serial_bytes reply.numbers.reversed)

-- the arguments give a frame of a terminal, its transaction key, and what was told of it
pub record AreReplyArguments (arguments : ReplyArguments) (told : Told) : Type 0 where
  pub asked : Asked
  pub key : List ℕ
  pub bytes : List ℕ
  pub key_is : IsNumberKey arguments.given (number_of asked) key
  pub asked_read : WritesAsked arguments.request asked
  pub told_read : WritesTold arguments.answer bytes told
  pub told_of : IsToldOf asked told
  pub has_its_mac : HasItsMac key bytes told

-- what is told is a refusal
abbrev pub is_refusal : Told → Bool
is_refusal (told.Answer (answer.Reply ksn code mac)) = false
is_refusal (told.Answer (answer.Refusal ksn reason)) = true
is_refusal (told.Undoing reply) = false

-- the text of the line that the arguments ask for, and whether it is that of a refusal
pub record IsReply (arguments : ReplyArguments) (refused : Bool) (text : List ℕ) : Type 0 where
  pub told : Told
  pub read : AreReplyArguments arguments told
  pub refused_is : refused ≡ is_refusal told
  pub text_is : text ≡ told_line told

-- the text of that line
abbrev pub IsReplyText : ReplyArguments → List ℕ → Type 0
IsReplyText arguments text = (refused : Bool) × IsReply arguments refused text

-- a frame of a terminal and what was told of it are given
pub record AreOfOneNumber (arguments : ReplyArguments) : Type 0 where
  pub asked : Asked
  pub bytes : List ℕ
  pub told : Told
  pub asked_read : WritesAsked arguments.request asked
  pub told_read : WritesTold arguments.answer bytes told
  pub told_of : IsToldOf asked told

-- what the arguments must meet, or else are refused with this fault
abbrev pub MeetsReply : ReplyArguments → Fault → Type 0
MeetsReply arguments RequestRefused = (asked : Asked) × WritesAsked arguments.request asked
MeetsReply arguments AnswerRefused =
    (bytes : List ℕ) × (told : Told) × WritesTold arguments.answer bytes told
MeetsReply arguments NotMine = AreOfOneNumber arguments
MeetsReply arguments BadMac = (told : Told) × AreReplyArguments arguments told
MeetsReply arguments fault = MeetsKey arguments.given fault

-- why they are refused: the first of the faults, in their order, whose condition they do not meet;
-- memory for the frames may be refused
abbrev pub IsReplyRefused : ReplyArguments → Fault → Type 0
IsReplyRefused arguments OutOfMemory = IsSome (key_in arguments.given)
IsReplyRefused arguments fault =
    IsFirst fault_rank (MeetsReply arguments) (λ fault. ¬ MeetsReply arguments fault) fault

-- the command `reply`
abbrev pub reply_of : ReplyArguments → Command
reply_of arguments = command_of (IsReplyText arguments) (IsReplyRefused arguments)
