-- What holds of each till beside what was sent, answered and sold.
use Rattle.std.proofs.Common.{◌≡◌, ◌≢◌, ◌⊎◌, inl, inr, ℕ, Option, Some, None, IfSome, Contains, ap, refl, subst, sym, ◌∙◌}
use Rattle.duk_frame.specs.declared.code.Code.{Code}
use Rattle.duk_frame.specs.declared.code.Code.TheVariants as code
use Rattle.duk_store.specs.Cell.{CellMeaning, IsPut, Kept, PutFailed}
use Rattle.duk_store.specs.declared.fault.StoreFault.{StoreFault}
use Rattle.duk_term.specs.Reply.{IsPending}
use Rattle.duk_term.specs.declared.state.Pending.{Pending}
use Rattle.duk_till.specs.History.{IsOf, payment_of}
use Rattle.duk_till.specs.Image.{kept_of, last_bytes}
use Rattle.duk_till.specs.Last.{AreLastFields}
use Rattle.duk_till.specs.Restart.{FoundLast}
use Rattle.duk_till.specs.Till.{TillOf}
use Rattle.duk_till.specs.declared.last.Last.{Last}
use Rattle.duk_till.specs.declared.last.Last.TheVariants.{Open, Approved, Declined, Undone}
use Rattle.duk_till.specs.declared.state.TillState.{TillState}
use Rattle.duk_till.specs.declared.state.TillState.TheVariants.{Stopped, Running}
use Rattle.duk_tree.specs.Serial.{Serial}
use Rattle.duk_books.specs.Books.{Meanings}
use Rattle.duk_stations.specs.Owner.{IsOwner}
use Rattle.duk_books.specs.Came.{IsAsked}
use Rattle.duk_books.specs.inner.Known.{OneReading}
use Rattle.duk_books.proofs.agreement.Facts.{GrowBeside, IsCalledBack, IsRepliedTo, IsSold, IsUndoneBy, Lists}
use Rattle.duk_books.proofs.agreement.Registers.{RegistersHold, registers_beside}
use Rattle.duk_stations.proofs.Terminals.{TerminalHas, found_then, stays_honest, terminal_as}

-- ---- what is known of a payment

-- the till waits for its outcome: it was sent by this till, and not called back
pub record IsAwaited (lists : Lists) (t : ℕ) (ksn : Serial) (amount : ℕ) : Type 0 where
  pub asked : IsAsked lists.requests ksn amount
  pub not_back : ¬ IsCalledBack lists.requests ksn
  pub owned : IsOwner lists.owners ksn.iksn t

-- it is approved: the host's reply says so
pub record IsGood (lists : Lists) (t : ℕ) (ksn : Serial) (amount : ℕ) : Type 0 where
  pub awaited : IsAwaited lists t ksn amount
  pub replied : IsRepliedTo lists.answers ksn code.Approved

-- what a book may say of the last purchase: an open one has begun, and is not sold, and what is said of another is so
abbrev pub Fits : Lists → ℕ → Last → Type 0
Fits lists t (Open ksn amount) = Contains lists.begun ksn × ((other : ℕ) → ¬ IsSold lists t ksn other)
Fits lists t (Approved ksn amount) = IsGood lists t ksn amount
Fits lists t (Declined ksn why) = (why ≢ code.Approved) × IsRepliedTo lists.answers ksn why
Fits lists t (Undone ksn) = IsUndoneBy lists.answers ksn

-- the outcome is known: it is sold, declined or undone
abbrev pub IsSettled : Lists → ℕ → Serial → ℕ → Type 0
IsSettled lists t ksn amount =
    IsSold lists t ksn amount ⊎ (((why : Code) × (why ≢ code.Approved) × IsRepliedTo lists.answers ksn why) ⊎ IsUndoneBy lists.answers ksn)

-- a book may keep this of a payment alone
pub record IsKeptOf (ksn : Serial) (amount : ℕ) (kept : Kept) : Type 0 where
  pub last : Last
  pub fields : AreLastFields last
  pub kept_is : kept ≡ Some (last_bytes last)
  pub is_of : IsOf (payment_of ksn amount) last

-- the outcome is not known: the payment is open, or the till is stopped, and its book keeps it
pub record IsInDoubt {C B : Type 0} (book : CellMeaning B) (ksn : Serial) (amount : ℕ) (till : TillOf C B) : Type 0 where
  pub runs : (last : Option Last) → till.state ≡ Running last → last ≡ Some (Open ksn amount)
  pub found : (kept : Kept) → (book.state_of till.book).found kept → IsKeptOf ksn amount kept

-- ---- books

-- the last purchase of a running till is what the book keeps alone; each that the book may find fits
pub record BookHolds {C B : Type 0} (book : CellMeaning B) (lists : Lists) (t : ℕ) (till : TillOf C B) : Type 0 where
  pub honest : (book.state_of till.book).honest
  pub runs : (last : Option Last) → till.state ≡ Running last → IfSome last AreLastFields × IfSome last (Fits lists t)
  pub only : (last : Option Last) → till.state ≡ Running last → (kept : Kept) → (book.state_of till.book).found kept → kept ≡ kept_of last
  pub found : (last : Last) → AreLastFields last → (book.state_of till.book).found (Some (last_bytes last)) → Fits lists t last

pub record TillHolds {C B J I : Type 0} (m : Meanings C B J I) (lists : Lists) (t : ℕ) (till : TillOf C B) : Type 0 where
  pub terminal : TerminalHas m.cell (RegistersHold lists t) till.terminal
  pub book : BookHolds m.book lists t till
  pub waits : (ksn : Serial) (amount : ℕ) (pending : Pending) → till.state ≡ Running (Some (Open ksn amount)) → IsPending till.terminal.state pending → pending.ksn ≡ ksn → IsAwaited lists t ksn amount
  pub entered : (ksn : Serial) (amount : ℕ) → till.state ≡ Running (Some (Approved ksn amount)) → IsSold lists t ksn amount
  pub known : (ksn : Serial) (amount : ℕ) → IsAsked lists.requests ksn amount → IsOwner lists.owners ksn.iksn t → IsSettled lists t ksn amount ⊎ IsInDoubt m.book ksn amount till

-- ---- lists that grow beside a till

awaited_beside : (t : ℕ) (old new : Lists) (ksn : Serial) (amount : ℕ) → GrowBeside t old new → IsAwaited old t ksn amount → IsAwaited new t ksn amount
awaited_beside t old new ksn amount grow is = record {
  asked = grow.asked_stays ksn amount is.asked;
  not_back = λ back. is.not_back (grow.called_back ksn back (grow.owner ksn.iksn t is.owned));
  owned = grow.owner ksn.iksn t is.owned;
}

pub good_beside : (t : ℕ) (old new : Lists) (ksn : Serial) (amount : ℕ) → GrowBeside t old new → IsGood old t ksn amount → IsGood new t ksn amount
good_beside t old new ksn amount grow is = record { awaited = awaited_beside t old new ksn amount grow is.awaited; replied = grow.replied ksn code.Approved is.replied }

fits_beside : (t : ℕ) (old new : Lists) (last : Last) → GrowBeside t old new → Fits old t last → Fits new t last
fits_beside t old new (Open ksn amount) grow fits = (grow.begun_stays ksn fits.0, λ other sold. fits.1 other (grow.sold ksn other sold))
fits_beside t old new (Approved ksn amount) grow fits = good_beside t old new ksn amount grow fits
fits_beside t old new (Declined ksn why) grow fits = (fits.0, grow.replied ksn why fits.1)
fits_beside t old new (Undone ksn) grow fits = grow.undone ksn fits

if_fits_beside : (t : ℕ) (old new : Lists) (last : Option Last) → GrowBeside t old new → IfSome last (Fits old t) → IfSome last (Fits new t)
if_fits_beside t old new None grow fits = tt
if_fits_beside t old new (Some last) grow fits = fits_beside t old new last grow fits

settled_beside : (t : ℕ) (old new : Lists) (ksn : Serial) (amount : ℕ) → GrowBeside t old new → IsSettled old t ksn amount → IsSettled new t ksn amount
settled_beside t old new ksn amount grow (inl sold) = inl (grow.sold_stays ksn amount sold)
settled_beside t old new ksn amount grow (inr (inl declined)) = inr (inl (declined.0, declined.1, grow.replied ksn declined.0 declined.2))
settled_beside t old new ksn amount grow (inr (inr undone)) = inr (inr (grow.undone ksn undone))

book_beside : {C B : Type 0} (book : CellMeaning B) (t : ℕ) (old new : Lists) (till : TillOf C B) → GrowBeside t old new → BookHolds book old t till → BookHolds book new t till
book_beside book t old new till grow holds = record {
  honest = holds.honest;
  runs = λ last runs. let was = holds.runs last runs in (was.0, if_fits_beside t old new last grow was.1);
  only = holds.only;
  found = λ last fields found. fits_beside t old new last grow (holds.found last fields found);
}

pub till_beside : {C B J I : Type 0} (m : Meanings C B J I) (t : ℕ) (old new : Lists) (till : TillOf C B) → GrowBeside t old new → TillHolds m old t till → TillHolds m new t till
till_beside m t old new till grow holds = record {
  terminal = terminal_as m.cell (RegistersHold old t) (RegistersHold new t) till.terminal (registers_beside t old new grow) holds.terminal;
  book = book_beside m.book t old new till grow holds.book;
  waits = λ ksn amount pending opens_on waits number. awaited_beside t old new ksn amount grow (holds.waits ksn amount pending opens_on waits number);
  entered = λ ksn amount approved. grow.sold_stays ksn amount (holds.entered ksn amount approved);
  known = λ ksn amount asked owned.
      let was = grow.asked ksn amount asked owned in
      elim (holds.known ksn amount was.0 was.1) [
        | inl settled ↦ inl (settled_beside t old new ksn amount grow settled)
        | inr doubt ↦ inr doubt
      ];
}

-- ---- books that are written and restarted

pub stopped_is_not_running : (state : TillState) (last : Option Last) → state ≡ Stopped → state ≢ Running last
stopped_is_not_running state last stopped runs = cc

pub same_last : (state : TillState) (one other : Option Last) → state ≡ Running one → state ≡ Running other → one ≡ other
same_last state one other is_one is_other = cc

same_kept : (one other : Last) → Some (last_bytes one) ≡ Some (last_bytes other) → last_bytes one ≡ last_bytes other
same_kept one other same = cc

-- what is kept has one reading
pub one_last : OneReading → (one other : Last) → AreLastFields one → AreLastFields other → Some (last_bytes one) ≡ Some (last_bytes other) → one ≡ other
one_last reading one other a b same =
    reading (last_bytes one) one other (record { fields = a; laid_out = refl }) (record { fields = b; laid_out = same_kept one other same })

fits_found : OneReading → (t : ℕ) (lists : Lists) (last : Option Last) (other : Last) → IfSome last AreLastFields → IfSome last (Fits lists t) → AreLastFields other → Some (last_bytes other) ≡ kept_of last → Fits lists t other
fits_found reading t lists None other fields fits is same = absurd (cc)
fits_found reading t lists (Some last) other fields fits is same = subst (Fits lists t) (one_last reading last other fields is (sym same)) fits

module _ {C B : Type 0} (reading : OneReading) (book : CellMeaning B) (t : ℕ) where
  -- nothing more may be found, and the till goes on as it was or stops
  pub book_stays : (lists : Lists) (old new : TillOf C B) → BookHolds book lists t old → ((book.state_of new.book).honest) → ((kept : Kept) → (book.state_of new.book).found kept → (book.state_of old.book).found kept)
      → (new.state ≡ old.state) ⊎ (new.state ≡ Stopped) → BookHolds book lists t new
  book_stays lists old new holds honest fewer (inl same) = record {
    honest = honest;
    runs = λ last runs. holds.runs last (sym same ∙ runs);
    only = λ last runs kept found. holds.only last (sym same ∙ runs) kept (fewer kept found);
    found = λ last fields found. holds.found last fields (fewer (Some (last_bytes last)) found);
  }
  book_stays lists old new holds honest fewer (inr stopped) = record {
    honest = honest;
    runs = λ last runs. absurd (stopped_is_not_running new.state last stopped runs);
    only = λ last runs. absurd (stopped_is_not_running new.state last stopped runs);
    found = λ last fields found. holds.found last fields (fewer (Some (last_bytes last)) found);
  }

  pub doubt_stays : (ksn : Serial) (amount : ℕ) (old new : TillOf C B) → IsInDoubt book ksn amount old → ((kept : Kept) → (book.state_of new.book).found kept → (book.state_of old.book).found kept)
      → (new.state ≡ old.state) ⊎ (new.state ≡ Stopped) → IsInDoubt book ksn amount new
  doubt_stays ksn amount old new doubt fewer (inl same) = record {
    runs = λ last runs. doubt.runs last (sym same ∙ runs);
    found = λ kept found. doubt.found kept (fewer kept found);
  }
  doubt_stays ksn amount old new doubt fewer (inr stopped) = record {
    runs = λ last runs. absurd (stopped_is_not_running new.state last stopped runs);
    found = λ kept found. doubt.found kept (fewer kept found);
  }

  -- the book keeps this alone, and the till runs on with it
  pub book_has : (lists : Lists) (new : TillOf C B) (last : Option Last) → (book.state_of new.book).honest → ((kept : Kept) → (book.state_of new.book).found kept → kept ≡ kept_of last)
      → new.state ≡ Running last → IfSome last AreLastFields → IfSome last (Fits lists t) → BookHolds book lists t new
  book_has lists new last honest only runs fields fits = record {
    honest = honest;
    runs = λ other runs_on. subst (λ (it : Option Last). IfSome it AreLastFields × IfSome it (Fits lists t)) (same_last new.state last other runs runs_on) (fields, fits);
    only = λ other runs_on kept found. only kept found ∙ ap kept_of (same_last new.state last other runs runs_on);
    found = λ other is found. fits_found reading t lists last other fields fits is (only (Some (last_bytes other)) found);
  }

  -- a last purchase is put into the book
  pub book_put : (lists : Lists) (old new : TillOf C B) (last : Last) → (book.state_of old.book).honest → IsPut book old.book new.book (last_bytes last) → new.state ≡ Running (Some last)
      → AreLastFields last → Fits lists t last → BookHolds book lists t new
  book_put lists old new last honest put runs fields fits =
      book_has lists new (Some last) (put.settles.nature.honest.0 honest) (λ kept found. (put.settles.finds honest kept).0 found) runs fields fits

  -- it is not put there
  pub book_lost : (lists : Lists) (old new : TillOf C B) (last : Last) (why : StoreFault) → BookHolds book lists t old → PutFailed book old.book new.book (last_bytes last) why → new.state ≡ Stopped
      → AreLastFields last → Fits lists t last → BookHolds book lists t new
  book_lost lists old new last why holds failed stopped fields fits = record {
    honest = stays_honest book old.book new.book (last_bytes last) why failed holds.honest;
    runs = λ other runs. absurd (stopped_is_not_running new.state other stopped runs);
    only = λ other runs. absurd (stopped_is_not_running new.state other stopped runs);
    found = λ other is found. elim (found_then book old.book new.book (last_bytes last) why holds.honest failed (Some (last_bytes other)) found) [
      | inl before ↦ holds.found other is before
      | inr here ↦ subst (Fits lists t) (one_last reading last other fields is (sym here)) fits
    ];
  }

  -- what stays in doubt where it is not put there
  pub doubt_lost : (ksn : Serial) (amount : ℕ) (old new : TillOf C B) (last : Last) (why : StoreFault) → (book.state_of old.book).honest → IsInDoubt book ksn amount old
      → PutFailed book old.book new.book (last_bytes last) why → new.state ≡ Stopped → AreLastFields last → IsOf (payment_of ksn amount) last → IsInDoubt book ksn amount new
  doubt_lost ksn amount old new last why honest doubt failed stopped fields is_of = record {
    runs = λ other runs. absurd (stopped_is_not_running new.state other stopped runs);
    found = λ kept found. elim (found_then book old.book new.book (last_bytes last) why honest failed kept found) [
      | inl before ↦ doubt.found kept before
      | inr here ↦ record { last = last; fields = fields; kept_is = here; is_of = is_of }
    ];
  }

  -- what a restart found fits
  pub found_fits : (lists : Lists) (old new : TillOf C B) (last : Option Last) → BookHolds book lists t old → FoundLast book old.book new.book last → IfSome last (Fits lists t)
  found_fits lists old new None holds found = tt
  found_fits lists old new (Some last) holds found = holds.found last found.fields (found.cell.was_found holds.honest)
