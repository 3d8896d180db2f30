-- What the calls over the frames of a reversal answer: formats of this project's own over ANSI
-- X9.19 and the variants of ANSI X9.24-1:2009 annex A.
use Rattle.std.specs.Prelude.{◌≡◌, ◌≢◌, ℕ, List, [], ◌∷◌, ⊤}
use Rattle.duk_reversal.specs.Authentic.{reversal_reply_under, reversal_under}
use Rattle.duk_reversal.specs.Numbers.{Numbers, Reverses}
use Rattle.duk_reversal.specs.Reply.{IsReversalReply}
use Rattle.duk_reversal.specs.Reversal.{IsReversal}
use Rattle.duk_reversal.specs.State.{state_byte}
use Rattle.duk_reversal.specs.declared.reply.ReversalReply.{ReversalReply}
use Rattle.duk_reversal.specs.declared.reversal.Reversal.{Reversal}
use Rattle.duk_reversal.specs.declared.state.ReversalState.{ReversalState}
use Rattle.duk_tree.specs.Derivation.{response_key_of}
use Rattle.duk_tree.specs.Serial.{serial_bytes, serial_of_bytes}
use Rattle.duk_calls.specs.Answer.{Answer, Buffer, Ends, HaveLengths, HaveRoom, filled, with_front}
use Rattle.duk_calls.specs.declared.fault.Fault.{Fault}
use Rattle.duk_calls.specs.declared.fault.Fault.TheVariants.{Length, NotReversed, NotAReversal, NotAState, NotAReversalReply, NotMine, BadMac}

-- a reversal: the transaction key of the number that it uses, that number, and the number that it
-- reverses, in ten bytes each
pub record Reversing : Type 0 where
  pub key : List ℕ
  pub ksn : List ℕ
  pub reversed : List ℕ

abbrev pub reversing : List ℕ → List ℕ → List ℕ → Reversing
reversing key ksn reversed = record { key = key; ksn = ksn; reversed = reversed }

-- a transaction key, and two key serial numbers
abbrev pub FitReversing : Reversing → Type 0
FitReversing asked =
    HaveLengths (asked.key ∷ asked.ksn ∷ asked.reversed ∷ []) (16 ∷ 10 ∷ 10 ∷ [])

-- its two numbers
abbrev pub numbers_asked : Reversing → Numbers
numbers_asked asked =
    record { ksn = serial_of_bytes asked.ksn; reversed = serial_of_bytes asked.reversed }

-- the first of them can reverse the second
abbrev pub CanReverse : Reversing → Type 0
CanReverse asked = Reverses (serial_of_bytes asked.ksn) (serial_of_bytes asked.reversed)

abbrev pub IsReversalRequestRefused : Type 0 → Reversing → Fault → Type 0
IsReversalRequestRefused Fit asked Length = ¬ Fit
IsReversalRequestRefused Fit asked NotReversed = Fit × ¬ CanReverse asked
IsReversalRequestRefused Fit asked _ = ⊥

abbrev pub ReversalRequestAnswers : Reversing → Buffer → Buffer → Answer → Type 0
ReversalRequestAnswers asked old new =
    let Fit = FitReversing asked × HaveRoom (old.bytes ∷ []) (64 ∷ []) in
    Ends
    (Fit × CanReverse asked × (new ≡ filled (reversal_under asked.key (numbers_asked asked)) old))
    (IsReversalRequestRefused Fit asked) (new ≡ old)

-- the bytes are no reversal's frame
abbrev pub IsNoReversal : List ℕ → Type 0
IsNoReversal frame = (reversal : Reversal) → ¬ IsReversal frame reversal

-- what a reading of a reversal writes: the two key serial numbers, and the MAC
pub record ReversalParts : Type 0 where
  pub ksn : List ℕ
  pub reversed : List ℕ
  pub mac : List ℕ

abbrev pub reversal_parts : List ℕ → List ℕ → List ℕ → ReversalParts
reversal_parts ksn reversed mac = record { ksn = ksn; reversed = reversed; mac = mac }

-- these are the fields of the reversal in a frame
pub record HoldsReversal (frame : List ℕ) (old new : ReversalParts) : Type 0 where
  pub reversal : Reversal
  pub is_reversal : IsReversal frame reversal
  pub ksn_is : new.ksn ≡ with_front (serial_bytes reversal.numbers.ksn) old.ksn
  pub reversed_is : new.reversed ≡ with_front (serial_bytes reversal.numbers.reversed) old.reversed
  pub mac_is : new.mac ≡ with_front reversal.mac old.mac

abbrev pub IsReadReversalRefused : Type 0 → List ℕ → Fault → Type 0
IsReadReversalRefused Fit frame Length = ¬ Fit
IsReadReversalRefused Fit frame NotAReversal = Fit × IsNoReversal frame
IsReadReversalRefused Fit frame _ = ⊥

abbrev pub ReadReversalAnswers : List ℕ → ReversalParts → ReversalParts → Answer → Type 0
ReadReversalAnswers frame old new =
    let Fit = HaveRoom (old.ksn ∷ old.reversed ∷ old.mac ∷ []) (10 ∷ 10 ∷ 8 ∷ []) in
    Ends (Fit × HoldsReversal frame old new) (IsReadReversalRefused Fit frame) (new ≡ old)

-- the frame is the reversal that its numbers have under the transaction key
pub record IsAuthenticReversal (key frame : List ℕ) : Type 0 where
  pub reversal : Reversal
  pub is_reversal : IsReversal frame reversal
  pub frame_is : frame ≡ reversal_under key reversal.numbers

-- the frame is a reversal's, and not the one that its numbers have under the transaction key
pub record IsForgedReversal (key frame : List ℕ) : Type 0 where
  pub reversal : Reversal
  pub is_reversal : IsReversal frame reversal
  pub frame_is_other : frame ≢ reversal_under key reversal.numbers

abbrev pub IsCheckReversalRefused : Type 0 → List ℕ → List ℕ → Fault → Type 0
IsCheckReversalRefused Fit key frame Length = ¬ Fit
IsCheckReversalRefused Fit key frame NotAReversal = Fit × IsNoReversal frame
IsCheckReversalRefused Fit key frame BadMac = Fit × IsForgedReversal key frame
IsCheckReversalRefused Fit key frame _ = ⊥

abbrev pub CheckReversalAnswers : List ℕ → List ℕ → Answer → Type 0
CheckReversalAnswers key frame =
    let Fit = HaveLengths (key ∷ []) (16 ∷ []) in
    Ends (Fit × IsAuthenticReversal key frame) (IsCheckReversalRefused Fit key frame) ⊤

-- the number is no state's
abbrev pub IsNoState : ℕ → Type 0
IsNoState number = (state : ReversalState) → state_byte state ≢ number

-- the reply to a reversal with this state
abbrev pub reply_to_reversal : Reversing → ReversalState → List ℕ
reply_to_reversal asked state =
    reversal_reply_under (response_key_of asked.key) (numbers_asked asked) state

-- the buffer holds the reply to a reversal, with the state of this number
pub record HoldsReversalReply (asked : Reversing) (number : ℕ) (old new : Buffer) : Type 0 where
  pub state : ReversalState
  pub state_is : state_byte state ≡ number
  pub written : new ≡ filled (reply_to_reversal asked state) old

abbrev pub IsReversalReplyRefused : Type 0 → Reversing → ℕ → Fault → Type 0
IsReversalReplyRefused Fit asked number Length = ¬ Fit
IsReversalReplyRefused Fit asked number NotReversed = Fit × ¬ CanReverse asked
IsReversalReplyRefused Fit asked number NotAState = Fit × CanReverse asked × IsNoState number
IsReversalReplyRefused Fit asked number _ = ⊥

abbrev pub ReversalReplyAnswers : Reversing → ℕ → Buffer → Buffer → Answer → Type 0
ReversalReplyAnswers asked number old new =
    let Fit = FitReversing asked × HaveRoom (old.bytes ∷ []) (64 ∷ []) in
    Ends (Fit × CanReverse asked × HoldsReversalReply asked number old new)
    (IsReversalReplyRefused Fit asked number) (new ≡ old)

-- the bytes are no frame of a reversal's reply
abbrev pub IsNoReversalReply : List ℕ → Type 0
IsNoReversalReply frame = (reply : ReversalReply) → ¬ IsReversalReply frame reply

-- what a reading of a reversal's reply writes: the two key serial numbers, and the state
pub record ReversalReplyParts : Type 0 where
  pub ksn : List ℕ
  pub reversed : List ℕ
  pub state : ℕ

abbrev pub reversal_reply_parts : List ℕ → List ℕ → ℕ → ReversalReplyParts
reversal_reply_parts ksn reversed state =
    record { ksn = ksn; reversed = reversed; state = state }

-- these are the fields of the reversal's reply in a frame
pub record HoldsReversalReplyParts (frame : List ℕ) (old new : ReversalReplyParts) : Type 0 where
  pub reply : ReversalReply
  pub is_reply : IsReversalReply frame reply
  pub ksn_is : new.ksn ≡ with_front (serial_bytes reply.numbers.ksn) old.ksn
  pub reversed_is : new.reversed ≡ with_front (serial_bytes reply.numbers.reversed) old.reversed
  pub state_is : new.state ≡ state_byte reply.state

abbrev pub IsReadReversalReplyRefused : Type 0 → List ℕ → Fault → Type 0
IsReadReversalReplyRefused Fit frame Length = ¬ Fit
IsReadReversalReplyRefused Fit frame NotAReversalReply = Fit × IsNoReversalReply frame
IsReadReversalReplyRefused Fit frame _ = ⊥

abbrev pub ReadReversalReplyAnswers
    : List ℕ → ReversalReplyParts → ReversalReplyParts → Answer → Type 0
ReadReversalReplyAnswers frame old new =
    let Fit = HaveRoom (old.ksn ∷ old.reversed ∷ []) (10 ∷ 10 ∷ []) in
    Ends (Fit × HoldsReversalReplyParts frame old new) (IsReadReversalReplyRefused Fit frame)
    (new ≡ old)

-- the frame is the reply to this reversal, with some state
pub record IsAuthenticReversalReply (asked : Reversing) (frame : List ℕ) : Type 0 where
  pub state : ReversalState
  pub can_reverse : CanReverse asked
  pub frame_is : frame ≡ reply_to_reversal asked state

-- the frame is the reply to a reversal with other numbers
pub record IsOtherReversalReply (asked : Reversing) (frame : List ℕ) : Type 0 where
  pub reply : ReversalReply
  pub is_reply : IsReversalReply frame reply
  pub numbers_are_other : reply.numbers ≢ numbers_asked asked

-- the frame is the reply to a reversal with these numbers, and not the one that this reversal gets
pub record IsForgedReversalReply (asked : Reversing) (frame : List ℕ) : Type 0 where
  pub reply : ReversalReply
  pub is_reply : IsReversalReply frame reply
  pub numbers_are : reply.numbers ≡ numbers_asked asked
  pub frame_is_other : frame ≢ reply_to_reversal asked reply.state

abbrev pub IsCheckReversalReplyRefused : Type 0 → Reversing → List ℕ → Fault → Type 0
IsCheckReversalReplyRefused Fit asked frame Length = ¬ Fit
IsCheckReversalReplyRefused Fit asked frame NotAReversalReply = Fit × IsNoReversalReply frame
IsCheckReversalReplyRefused Fit asked frame NotMine = Fit × IsOtherReversalReply asked frame
IsCheckReversalReplyRefused Fit asked frame BadMac = Fit × IsForgedReversalReply asked frame
IsCheckReversalReplyRefused Fit asked frame _ = ⊥

abbrev pub CheckReversalReplyAnswers : Reversing → List ℕ → Answer → Type 0
CheckReversalReplyAnswers asked frame =
    let Fit = FitReversing asked in
    Ends (Fit × IsAuthenticReversalReply asked frame) (IsCheckReversalReplyRefused Fit asked frame)
    ⊤
