-- What `issue` does where the lines of issued numbers are made once more (this project's own).
use Rattle.std.specs.Prelude.{◌≡◌, ◌<◌, ℕ, zero, suc, List, [], ◌∷◌}
use Rattle.duk_io.specs.Known.{Known}
use Rattle.duk_io.specs.Sink.{IsCut, IsWritten}
use Rattle.duk_ledger.specs.Issued.{Issues}
use Rattle.duk_ledger.specs.declared.issued.Issued.{Issued}
use Rattle.duk_store.specs.Listed.{ListMeaning}
use Rattle.duk_store.specs.Restart.{Restarted}
use Rattle.duk_store.specs.declared.fault.StoreFault.TheVariants as store
use Rattle.duk_commands.specs.Issue.{Ends, IsRefusedBy, IsUnread}
use Rattle.duk_commands.specs.Ledger.{IsIssued}
use Rattle.duk_commands.specs.IssuedLines.{AreLines, IsLine}
use Rattle.duk_commands.specs.Numbers.{iksn_at}
use Rattle.duk_commands.specs.declared.issue.fault.IssueFault.{IssueFault}
use Rattle.duk_commands.specs.declared.issue.fault.IssueFault.TheVariants as fault
use Rattle.duk_commands.specs.declared.issue.order.Order.{Order}

-- so many places, in their order, from this one on
abbrev pub places_from : ℕ → ℕ → List ℕ
places_from place zero = []
places_from place (suc count) = place ∷ places_from (suc place) count

-- all of so many numbers from the first on are issued
abbrev pub AreAllIssued : Issues → ℕ → ℕ → Type 0
AreAllIssued issues first count =
    (place : ℕ) → place < count → IsIssued issues (iksn_at first place)

-- the ledger was restarted and found a list that has all numbers of the order. It keeps that list, and
-- their lines are written
pub record AreMadeAgain
    {L : Type 0} (meaning : ListMeaning L Issued) (order : Order) (padding : List ℕ) (old new : Ends L)
    : Type 0 where
  pub issues : Issues
  pub text : List ℕ
  pub kept : Restarted (meaning.state_of old.ledger) (meaning.state_of new.ledger) issues
  pub all_issued : AreAllIssued issues order.first order.count
  pub lines : AreLines order padding (places_from 0 order.count) text
  pub written : IsWritten old.output new.output text

-- a write failed: the lines before were written
pub record IsCutAgain
    {L : Type 0} (meaning : ListMeaning L Issued) (order : Order) (padding : List ℕ) (old new : Ends L)
    : Type 0 where
  pub issues : Issues
  pub last : ℕ
  pub text : List ℕ
  pub line : List ℕ
  pub mid : Known
  pub kept : Restarted (meaning.state_of old.ledger) (meaning.state_of new.ledger) issues
  pub all_issued : AreAllIssued issues order.first order.count
  pub inside : last < order.count
  pub lines : AreLines order padding (places_from 0 last) text
  pub line_is : IsLine order padding last line
  pub written : IsWritten old.output mid text
  pub cut : IsCut mid new.output line

-- this is the first number of the order that the list does not have
pub record IsMissing (order : Order) (iksn : ℕ) (issues : Issues) : Type 0 where
  pub place : ℕ
  pub inside : place < order.count
  pub missing : ¬ IsIssued issues (iksn_at order.first place)
  pub all_before : AreAllIssued issues order.first place
  pub iksn_is : iksn ≡ iksn_at order.first place

-- why not all lines are made, and what that leaves; where memory was refused, all is as it was
abbrev pub NotMadeAgain : {L : Type 0} → ListMeaning L Issued → Order → List ℕ → Ends L → Ends L
    → IssueFault → Type 0
NotMadeAgain meaning order padding old new fault.LedgerFailed =
    IsUnread meaning old new store.Device
NotMadeAgain meaning order padding old new fault.LedgerDamaged =
    IsUnread meaning old new store.Damaged
NotMadeAgain meaning order padding old new (fault.NotIssued iksn) =
    IsRefusedBy meaning old new (IsMissing order iksn)
NotMadeAgain meaning order padding old new fault.OutOfMemory = new ≡ old
NotMadeAgain meaning order padding old new fault.WriteFailed =
    IsCutAgain meaning order padding old new
NotMadeAgain meaning order padding old new _ = ⊥
