-- The keys of the host's replies, and why it refuses: this project's own, over the transaction keys
-- of ANSI X9.24-1:2009 annex A.
use Rattle.std.specs.Prelude.{◌≡◌, ◌⊎◌, ℕ, List}
use Rattle.duk_frame.specs.Answer.{IsReply}
use Rattle.duk_frame.specs.declared.code.Code.{Code}
use Rattle.duk_host.specs.Judgement.{IsReplyWith}
use Rattle.duk_hsm.specs.Keys.{HsmKeys}
use Rattle.duk_journal_host.specs.Judged.{TellsReversal}
use Rattle.duk_journal_host.specs.Judgement.{IsReversalReplyWith}
use Rattle.duk_reversal.specs.Numbers.{Numbers}
use Rattle.duk_reversal.specs.declared.state.ReversalState.{ReversalState}
use Rattle.duk_tree.specs.Serial.{Serial}
use Rattle.duk_books.specs.Books.{Frame}
use Rattle.duk_books.specs.declared.outcome.Outcome.{Outcome}
use Rattle.duk_books.specs.declared.outcome.Outcome.TheVariants as outcome

-- where the frame is a reply, to a payment or to a reversal, it is the one under the transaction key
-- of its number, from the keys that are held
pub record IsOwnKeyReply (keys : HsmKeys) (frame : Frame) : Type 0 where
  pub payment : (ksn : Serial) (code : Code) (mac : List ℕ) → IsReply frame.items ksn code mac
      → IsReplyWith keys ksn code frame.items
  pub reversal : (numbers : Numbers) (state : ReversalState)
      → TellsReversal numbers state frame.items
      → IsReversalReplyWith keys numbers state frame.items

-- a refusal says that the number is used or that there is no room: it is none of those for a frame
-- that is no request and no reversal, for a key set that is not held, for a counter that numbers no
-- transaction, or for a MAC
abbrev pub IsRefusedAsUsedOrFull : Outcome → Type 0
IsRefusedAsUsedOrFull (outcome.Refused n ksn reason) = (reason ≡ 5) ⊎ (reason ≡ 6)
IsRefusedAsUsedOrFull _ = Unit {0}
