-- The frames of replies to reversals: a format of this project's own.
use Rattle.std.specs.Prelude.{◌≡◌, ℕ, List, [], ◌∷◌, ◌++◌}
use Rattle.duk_des.specs.Block.{IsBlock}
use Rattle.duk_frame.specs.Frame.{framed}
use Rattle.duk_reversal.specs.Numbers.{Numbers, AreNumbers, number_bytes}
use Rattle.duk_reversal.specs.State.{state_byte}
use Rattle.duk_reversal.specs.declared.reply.ReversalReply.{ReversalReply}
use Rattle.duk_reversal.specs.declared.state.ReversalState.{ReversalState}

-- the contents of a reversal's reply before its MAC: version 1 and kind 5, the two numbers of the
-- reversal, and the state
abbrev pub reversal_reply_text : Numbers → ReversalState → List ℕ
reversal_reply_text numbers state = 1 ∷ 5 ∷ (number_bytes numbers ++ state_byte state ∷ [])

-- the fields of a reversal's reply are what their names say
pub record AreReversalReplyFields (reply : ReversalReply) : Type 0 where
  pub numbers_are : AreNumbers reply.numbers
  pub mac_is : IsBlock reply.mac

-- the frame of a reversal's reply
abbrev pub reversal_reply_bytes : ReversalReply → List ℕ
reversal_reply_bytes reply = framed (reversal_reply_text reply.numbers reply.state ++ reply.mac)

-- the bytes are the frame of this reply
pub record IsReversalReply (bytes : List ℕ) (reply : ReversalReply) : Type 0 where
  pub fields : AreReversalReplyFields reply
  pub laid_out : bytes ≡ reversal_reply_bytes reply
