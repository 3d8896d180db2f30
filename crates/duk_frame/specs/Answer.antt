-- Answer frames, accepted replies and refusals: formats of this project's own.
use Rattle.std.specs.Prelude.{◌≡◌, ◌≤◌, ℕ, List, [], ◌∷◌, ◌++◌}
use Rattle.duk_des.specs.Block.{IsBlock}
use Rattle.duk_tree.specs.Serial.{Serial, IsSerial, serial_bytes}
use Rattle.duk_frame.specs.Code.{code_text}
use Rattle.duk_frame.specs.Frame.{framed}
use Rattle.duk_frame.specs.declared.code.Code.{Code}
use Rattle.duk_frame.specs.declared.answer.AnswerFrame.{AnswerFrame}
use Rattle.duk_frame.specs.declared.answer.AnswerFrame.TheVariants.{Reply, Refusal}

-- the contents of an accepted reply before its MAC: version 1 and kind 2, the key serial number,
-- and the code's two digits
abbrev pub reply_text : Serial → Code → List ℕ
reply_text ksn code = 1 ∷ 2 ∷ (serial_bytes ksn ++ code_text code)

-- the contents of a refusal: version 1 and kind 3, the ten bytes of the key serial number, and the
-- reason
abbrev pub refusal_text : List ℕ → ℕ → List ℕ
refusal_text ksn reason = 1 ∷ 3 ∷ (ksn ++ reason ∷ [])

-- a reason for a refusal is a number from 1 to 6
pub record IsReason (reason : ℕ) : Type 0 where
  pub least : 1 ≤ reason
  pub most : reason ≤ 6

-- the fields of an answer are what their names say
abbrev pub AreAnswerFields : AnswerFrame → Type 0
AreAnswerFields (Reply ksn code mac) = IsSerial ksn × IsBlock mac
AreAnswerFields (Refusal ksn reason) = IsSerial ksn × IsReason reason

-- the frame of an answer
abbrev pub answer_bytes : AnswerFrame → List ℕ
answer_bytes (Reply ksn code mac) = framed (reply_text ksn code ++ mac)
answer_bytes (Refusal ksn reason) = framed (refusal_text (serial_bytes ksn) reason)

-- the bytes are the frame of this answer
pub record IsAnswer (bytes : List ℕ) (answer : AnswerFrame) : Type 0 where
  pub fields : AreAnswerFields answer
  pub laid_out : bytes ≡ answer_bytes answer

-- the bytes are the frame of this accepted reply
abbrev pub IsReply : List ℕ → Serial → Code → List ℕ → Type 0
IsReply bytes ksn code mac = IsAnswer bytes (Reply ksn code mac)

-- the bytes are the frame of this refusal
abbrev pub IsRefusal : List ℕ → Serial → ℕ → Type 0
IsRefusal bytes ksn reason = IsAnswer bytes (Refusal ksn reason)
