-- A till begins a purchase: this project's own.
use Rattle.std.specs.Prelude.{◌≡◌, ◌+◌, ◌++◌, ◌∷◌, [], ℕ, Ok, Err, length}
use Rattle.duk_term.specs.declared.answer.Begun.{Begun}
use Rattle.duk_term.specs.declared.purchase.Purchase.{Purchase}
use Rattle.duk_till.specs.Lifetime.{Begin, IsCalled}
use Rattle.duk_tree.specs.Serial.{Serial}
use Rattle.duk_books.specs.Books.{BooksOf, ChangesTill, Meanings}
use Rattle.duk_stations.specs.Places.{ChangesOnly, HasNone}
use Rattle.duk_books.specs.declared.outcome.Outcome.{Outcome}
use Rattle.duk_books.specs.declared.outcome.Outcome.TheVariants as outcome

-- a request is sent
pub record IsSent
    {C B J I : Type 0} (m : Meanings C B J I) (old : BooksOf C B J I) (t : ℕ) (purchase : Purchase)
    (k : ℕ) (ksn : Serial) (new : BooksOf C B J I) : Type 0 where
  pub begun : Begun
  pub till : ChangesOnly t (IsCalled m.cell m.book (Begin purchase (Ok begun))) old.tills new.tills
  pub number_is : begun.ksn ≡ ksn
  pub counted : k ≡ length old.requests + 1
  pub rest : new ≡ record old { tills = new.tills; requests = old.requests ++ begun.frame ∷ [] }

-- what comes of a begin
abbrev pub Begins : {C B J I : Type 0} → Meanings C B J I → BooksOf C B J I → ℕ → Purchase
    → Outcome → BooksOf C B J I → Type 0
Begins m old t purchase outcome.NoSuchTill new = HasNone old.tills t × (new ≡ old)
Begins m old t purchase (outcome.Sent u k ksn) new = (u ≡ t) × IsSent m old t purchase k ksn new
Begins m old t purchase (outcome.TillFaulted u why) new =
    (u ≡ t) × ChangesTill t (IsCalled m.cell m.book (Begin purchase (Err why))) old new
Begins m old t purchase _ new = ⊥
