-- A till reverses its open purchase: this project's own.
use Rattle.std.specs.Prelude.{◌≡◌, ◌+◌, ◌++◌, ◌∷◌, [], ℕ, Ok, Err, length}
use Rattle.duk_reversal.specs.Reversal.{IsReversal}
use Rattle.duk_reversal.specs.declared.reversal.Reversal as reversal_frame
use Rattle.duk_term.specs.declared.answer.Begun.{Begun}
use Rattle.duk_till.specs.Lifetime.{IsCalled, Reverse}
use Rattle.duk_tree.specs.Serial.{Serial}
use Rattle.duk_books.specs.Books.{BooksOf, ChangesTill, Meanings}
use Rattle.duk_stations.specs.Places.{ChangesOnly, HasNone}
use Rattle.duk_books.specs.declared.outcome.Outcome.{Outcome}
use Rattle.duk_books.specs.declared.outcome.Outcome.TheVariants as outcome

-- a reversal is sent, whose frame names these two numbers
pub record IsReversalSent
    {C B J I : Type 0} (m : Meanings C B J I) (old : BooksOf C B J I) (t k : ℕ)
    (ksn reversed : Serial) (new : BooksOf C B J I) : Type 0 where
  pub begun : Begun
  pub reversal : reversal_frame.Reversal
  pub till : ChangesOnly t (IsCalled m.cell m.book (Reverse (Ok begun))) old.tills new.tills
  pub is_reversal : IsReversal begun.frame.items reversal
  pub number_is : reversal.numbers.ksn ≡ ksn
  pub reversed_is : reversal.numbers.reversed ≡ reversed
  pub counted : k ≡ length old.requests + 1
  pub rest : new ≡ record old { tills = new.tills; requests = old.requests ++ begun.frame ∷ [] }

-- what comes of a reversal
abbrev pub Reverses : {C B J I : Type 0} → Meanings C B J I → BooksOf C B J I → ℕ → Outcome
    → BooksOf C B J I → Type 0
Reverses m old t outcome.NoSuchTill new = HasNone old.tills t × (new ≡ old)
Reverses m old t (outcome.Reversing u k ksn reversed) new =
    (u ≡ t) × IsReversalSent m old t k ksn reversed new
Reverses m old t (outcome.TillFaulted u why) new =
    (u ≡ t) × ChangesTill t (IsCalled m.cell m.book (Reverse (Err why))) old new
Reverses m old t _ new = ⊥
