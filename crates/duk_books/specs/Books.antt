-- Tills, host, network and the merchants' book together: this project's own.
use Rattle.std.specs.Prelude.{◌≡◌, ℕ, List}
use Rattle.arrayvec.specs.ArrayVec.{ArrayVec}
use Rattle.duk_host.specs.Judgement.{Decision}
use Rattle.duk_journal.specs.Journal.{JournalMeaning}
use Rattle.duk_journal_host.specs.Host.{HostMeaning, HostOf, host_meaning_of}
use Rattle.duk_stations.specs.Places.{ChangesOnly, HasNone}
use Rattle.duk_store.specs.Cell.{CellMeaning}
use Rattle.duk_till.specs.Till.{TillOf}
use Rattle.duk_books.specs.declared.outcome.Outcome.{Outcome}
use Rattle.duk_books.specs.declared.outcome.Outcome.TheVariants.{NoSuchTill}
use Rattle.duk_stations.specs.declared.owner.Owner.{Owner}
use Rattle.duk_books.specs.declared.sales.Sale.{Sale}

-- a frame as it was sent, whose bytes are its items
abbrev pub Frame : Type 0
Frame = ArrayVec ℕ

-- the host, the key under which tills are loaded, the tills, the frames of all requests and
-- reversals and of all answers that were ever sent, which till owns which initial key serial number,
-- and the merchants' book: what the tills have as approved
pub record BooksOf (C B J I : Type 0) : Type 0 where
  pub host : HostOf J I
  pub loading : List ℕ
  pub tills : List (TillOf C B)
  pub requests : List Frame
  pub answers : List Frame
  pub owners : List Owner
  pub sales : List Sale

-- what the two cells of its tills, and the journal and the issuer of its host mean
pub record Meanings (C B J I : Type 0) : Type 1 where
  pub cell : CellMeaning C
  pub book : CellMeaning B
  pub host : HostMeaning J I

-- those meanings together
abbrev pub meanings_of : {C B J I : Type 0} → CellMeaning C → CellMeaning B → JournalMeaning J
    → (I → Decision) → Meanings C B J I
meanings_of cell book journal decides =
    record { cell = cell; book = book; host = host_meaning_of journal decides }

-- a till changes in this way, and all else stays
pub record ChangesTill
    {C B J I : Type 0} (t : ℕ) (change : TillOf C B → TillOf C B → Type 0)
    (old new : BooksOf C B J I) : Type 0 where
  pub till : ChangesOnly t change old.tills new.tills
  pub rest : new ≡ record old { tills = new.tills }

-- there is no till of this number
pub record FindsNoTill
    {C B J I : Type 0} (old : BooksOf C B J I) (t : ℕ) (outcome : Outcome)
    (new : BooksOf C B J I) : Type 0 where
  pub none : HasNone old.tills t
  pub outcome_is : outcome ≡ NoSuchTill
  pub same : new ≡ old
