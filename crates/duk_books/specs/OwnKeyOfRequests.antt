-- The keys of what tills send: this project's own, over the transaction keys of ANSI X9.24-1:2009
-- annex A.
use Rattle.std.specs.Prelude.{◌≡◌, ◌⊎◌, ℕ, List}
use Rattle.duk_frame.specs.Payment.{payment_request}
use Rattle.duk_frame.specs.Request.{IsRequest}
use Rattle.duk_frame.specs.declared.request.Request.{Request}
use Rattle.duk_host.specs.Judgement.{IsAuthentic}
use Rattle.duk_hsm.specs.Commands.{IsPinOf}
use Rattle.duk_hsm.specs.Keys.{HsmKeys}
use Rattle.duk_journal_host.specs.Judgement.{IsAuthenticReversal}
use Rattle.duk_reversal.specs.Authentic.{reversal_under}
use Rattle.duk_reversal.specs.Reversal.{IsReversal}
use Rattle.duk_reversal.specs.declared.reversal.Reversal as reversal_frame
use Rattle.duk_books.specs.Books.{Frame}

-- the frame is the request of a payment under the transaction key of its number, which comes from
-- the initial key that the held base derivation key gives the till: its MAC is that of its text
-- under that key, and its PIN is found again under that key
pub record IsOwnKeyRequest (keys : HsmKeys) (frame : Frame) : Type 0 where
  pub request : Request
  pub pin : List ℕ
  pub is_request : IsRequest frame.items request
  pub authentic : IsAuthentic keys request
  pub frame_is : frame.items
      ≡ payment_request authentic.key request.ksn request.pan pin request.amount
  pub pin_is_found : IsPinOf authentic.key request.block request.pan pin

-- the frame is a reversal under the transaction key of the number that it uses, which comes from
-- that initial key: its MAC is that of its text under that key
pub record IsOwnKeyReversal (keys : HsmKeys) (frame : Frame) : Type 0 where
  pub reversal : reversal_frame.Reversal
  pub is_reversal : IsReversal frame.items reversal
  pub authentic : IsAuthenticReversal keys reversal
  pub frame_is : frame.items ≡ reversal_under authentic.key reversal.numbers

-- what a till sent is one of these
abbrev pub IsOwnKeySent : HsmKeys → Frame → Type 0
IsOwnKeySent keys frame = IsOwnKeyRequest keys frame ⊎ IsOwnKeyReversal keys frame
