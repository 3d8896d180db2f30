-- The keys of what goes over the network: this project's own, over the transaction keys of ANSI
-- X9.24-1:2009 annex A.
use Rattle.std.specs.Prelude.{◌≡◌, ◌⊎◌, ℕ, List}
use Rattle.duk_frame.specs.Answer.{IsReply}
use Rattle.duk_frame.specs.Payment.{payment_request}
use Rattle.duk_frame.specs.Request.{IsRequest}
use Rattle.duk_frame.specs.declared.code.Code.{Code}
use Rattle.duk_frame.specs.declared.request.Request.{Request}
use Rattle.duk_hsm.specs.Commands.{IsPinOf}
use Rattle.duk_hsm.specs.Keys.{HsmKeys}
use Rattle.duk_host.specs.Judgement.{IsAuthentic, IsReplyWith}
use Rattle.duk_tree.specs.Serial.{Serial}
use Rattle.duk_net.specs.World.{Frame}
use Rattle.duk_net.specs.declared.outcome.Outcome.{Outcome}
use Rattle.duk_net.specs.declared.outcome.Outcome.TheVariants as outcome

-- the frame is the request of a payment under the transaction key of its number, which comes from
-- the initial key that the held base derivation key gives the terminal: its MAC is that of its text
-- under that key, and its PIN is found again under that key
pub record IsOwnKeyRequest (keys : HsmKeys) (frame : Frame) : Type 0 where
  pub request : Request
  pub pin : List ℕ
  pub is_request : IsRequest frame.items request
  pub authentic : IsAuthentic keys request
  pub frame_is : frame.items
      ≡ payment_request authentic.key request.ksn request.pan pin request.amount
  pub pin_is_found : IsPinOf authentic.key request.block request.pan pin

-- where the frame is an accepted reply, it is the one under the transaction key of its number
abbrev pub IsOwnKeyReply : HsmKeys → Frame → Type 0
IsOwnKeyReply keys frame =
    (ksn : Serial) (code : Code) (mac : List ℕ) → IsReply frame.items ksn code mac
    → IsReplyWith keys ksn code frame.items

-- a refusal says that the number is used or that the log is full: it is none of those for a frame
-- that is no request, for a key set that is not held, for a counter that numbers no transaction, or
-- for a MAC
abbrev pub IsRefusedAsUsedOrFull : Outcome → Type 0
IsRefusedAsUsedOrFull (outcome.Refused n ksn reason) = (reason ≡ 5) ⊎ (reason ≡ 6)
IsRefusedAsUsedOrFull _ = Unit {0}
