-- What the calls over accepted replies and refusals answer: formats of this project's own over ANSI
-- X9.19 and the variants of ANSI X9.24-1:2009 annex A.
use Rattle.std.specs.Prelude.{◌≡◌, ◌≢◌, ℕ, List, [], ◌∷◌, ⊤}
use Rattle.duk_frame.specs.Answer.{IsReason, IsRefusal, IsReply, refusal_text}
use Rattle.duk_frame.specs.Code.{code_text}
use Rattle.duk_frame.specs.Frame.{framed}
use Rattle.duk_frame.specs.Payment.{payment_reply}
use Rattle.duk_frame.specs.declared.code.Code.{Code}
use Rattle.duk_tree.specs.Serial.{Serial, serial_bytes, serial_of_bytes}
use Rattle.duk_calls.specs.Answer.{Answer, Buffer, Ends, HaveLengths, HaveRoom, filled, with_front}
use Rattle.duk_calls.specs.declared.fault.Fault.{Fault}
use Rattle.duk_calls.specs.declared.fault.Fault.TheVariants.{Length, NotAReply, NotARefusal, NotACode, NotAReason, NotMine, BadMac}

-- the two bytes are no code of a reply
abbrev pub IsNoCode : List ℕ → Type 0
IsNoCode text = (code : Code) → code_text code ≢ text

-- the buffer holds the accepted reply of a payment, with the code of these two digits
pub record HoldsReply (key ksn digits : List ℕ) (old new : Buffer) : Type 0 where
  pub code : Code
  pub code_is : code_text code ≡ digits
  pub written : new ≡ filled (payment_reply key (serial_of_bytes ksn) code) old

abbrev pub IsReplyRefused : Type 0 → List ℕ → Fault → Type 0
IsReplyRefused Fit digits Length = ¬ Fit
IsReplyRefused Fit digits NotACode = Fit × IsNoCode digits
IsReplyRefused Fit digits _ = ⊥

-- a transaction key, a key serial number, two digits, and room for a frame
abbrev pub FitReply : List ℕ → List ℕ → List ℕ → List ℕ → Type 0
FitReply key ksn digits frame =
    HaveLengths (key ∷ ksn ∷ digits ∷ []) (16 ∷ 10 ∷ 2 ∷ []) × HaveRoom (frame ∷ []) (64 ∷ [])

abbrev pub RequestReplyAnswers : List ℕ → List ℕ → List ℕ → Buffer → Buffer → Answer → Type 0
RequestReplyAnswers key ksn digits old new =
    let Fit = FitReply key ksn digits old.bytes in
    Ends (Fit × HoldsReply key ksn digits old new) (IsReplyRefused Fit digits) (new ≡ old)

abbrev pub IsRefusalRefused : Type 0 → ℕ → Fault → Type 0
IsRefusalRefused Fit reason Length = ¬ Fit
IsRefusalRefused Fit reason NotAReason = Fit × ¬ IsReason reason
IsRefusalRefused Fit reason _ = ⊥

abbrev pub RequestRefusalAnswers : List ℕ → ℕ → Buffer → Buffer → Answer → Type 0
RequestRefusalAnswers ksn reason old new =
    let Fit = HaveLengths (ksn ∷ []) (10 ∷ []) × HaveRoom (old.bytes ∷ []) (64 ∷ []) in
    Ends (Fit × IsReason reason × (new ≡ filled (framed (refusal_text ksn reason)) old))
    (IsRefusalRefused Fit reason) (new ≡ old)

-- the bytes are no accepted reply's frame
abbrev pub IsNoReply : List ℕ → Type 0
IsNoReply frame = (ksn : Serial) (code : Code) (mac : List ℕ) → ¬ IsReply frame ksn code mac

-- what a reading of an accepted reply writes: the key serial number, and the code's two digits
pub record ReplyParts : Type 0 where
  pub ksn : List ℕ
  pub digits : List ℕ

abbrev pub reply_parts : List ℕ → List ℕ → ReplyParts
reply_parts ksn digits = record { ksn = ksn; digits = digits }

-- these are the fields of the accepted reply in a frame
pub record HoldsReplyParts (frame : List ℕ) (old new : ReplyParts) : Type 0 where
  pub ksn : Serial
  pub code : Code
  pub mac : List ℕ
  pub is_reply : IsReply frame ksn code mac
  pub ksn_is : new.ksn ≡ with_front (serial_bytes ksn) old.ksn
  pub digits_are : new.digits ≡ with_front (code_text code) old.digits

abbrev pub IsReadReplyRefused : Type 0 → List ℕ → Fault → Type 0
IsReadReplyRefused Fit frame Length = ¬ Fit
IsReadReplyRefused Fit frame NotAReply = Fit × IsNoReply frame
IsReadReplyRefused Fit frame _ = ⊥

abbrev pub ReadReplyAnswers : List ℕ → ReplyParts → ReplyParts → Answer → Type 0
ReadReplyAnswers frame old new =
    let Fit = HaveRoom (old.ksn ∷ old.digits ∷ []) (10 ∷ 2 ∷ []) in
    Ends (Fit × HoldsReplyParts frame old new) (IsReadReplyRefused Fit frame) (new ≡ old)

-- the bytes are no refusal's frame
abbrev pub IsNoRefusal : List ℕ → Type 0
IsNoRefusal frame = (ksn : Serial) (reason : ℕ) → ¬ IsRefusal frame ksn reason

-- what a reading of a refusal writes: the key serial number, and the reason
pub record RefusalParts : Type 0 where
  pub ksn : List ℕ
  pub reason : ℕ

abbrev pub refusal_parts : List ℕ → ℕ → RefusalParts
refusal_parts ksn reason = record { ksn = ksn; reason = reason }

-- these are the fields of the refusal in a frame
pub record HoldsRefusalParts (frame : List ℕ) (old new : RefusalParts) : Type 0 where
  pub ksn : Serial
  pub is_refusal : IsRefusal frame ksn new.reason
  pub ksn_is : new.ksn ≡ with_front (serial_bytes ksn) old.ksn

abbrev pub IsReadRefusalRefused : Type 0 → List ℕ → Fault → Type 0
IsReadRefusalRefused Fit frame Length = ¬ Fit
IsReadRefusalRefused Fit frame NotARefusal = Fit × IsNoRefusal frame
IsReadRefusalRefused Fit frame _ = ⊥

abbrev pub ReadRefusalAnswers : List ℕ → RefusalParts → RefusalParts → Answer → Type 0
ReadRefusalAnswers frame old new =
    let Fit = HaveRoom (old.ksn ∷ []) (10 ∷ []) in
    Ends (Fit × HoldsRefusalParts frame old new) (IsReadRefusalRefused Fit frame) (new ≡ old)

-- the frame is the accepted reply of the payment with this transaction key and this number
pub record IsAuthenticReply (key ksn frame : List ℕ) : Type 0 where
  pub code : Code
  pub frame_is : frame ≡ payment_reply key (serial_of_bytes ksn) code

-- the frame is an accepted reply's, to another number
pub record IsOtherReply (ksn frame : List ℕ) : Type 0 where
  pub other : Serial
  pub code : Code
  pub mac : List ℕ
  pub is_reply : IsReply frame other code mac
  pub other_is : other ≢ serial_of_bytes ksn

-- the frame is an accepted reply's to this number, and not that of the payment
pub record IsForgedReply (key ksn frame : List ℕ) : Type 0 where
  pub code : Code
  pub mac : List ℕ
  pub is_reply : IsReply frame (serial_of_bytes ksn) code mac
  pub frame_is_other : frame ≢ payment_reply key (serial_of_bytes ksn) code

abbrev pub IsCheckReplyRefused : Type 0 → List ℕ → List ℕ → List ℕ → Fault → Type 0
IsCheckReplyRefused Fit key ksn frame Length = ¬ Fit
IsCheckReplyRefused Fit key ksn frame NotAReply = Fit × IsNoReply frame
IsCheckReplyRefused Fit key ksn frame NotMine = Fit × IsOtherReply ksn frame
IsCheckReplyRefused Fit key ksn frame BadMac = Fit × IsForgedReply key ksn frame
IsCheckReplyRefused Fit key ksn frame _ = ⊥

abbrev pub CheckReplyAnswers : List ℕ → List ℕ → List ℕ → Answer → Type 0
CheckReplyAnswers key ksn frame =
    let Fit = HaveLengths (key ∷ ksn ∷ []) (16 ∷ 10 ∷ []) in
    Ends (Fit × IsAuthenticReply key ksn frame) (IsCheckReplyRefused Fit key ksn frame) ⊤
