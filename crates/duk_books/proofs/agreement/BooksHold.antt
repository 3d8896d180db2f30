-- What holds of all that is reached.
use Rattle.std.proofs.Common.{◌≡◌, ◌≢◌, ◌++◌, ◌∷◌, [], ℕ, List, AllPairs, Contains, inl, inr, sym, subst}
use Rattle.std.proofs.lemmas.List.Elements.{Contains-append_cases}
use Rattle.duk_term.specs.declared.state.State.TheVariants as term_state
use Rattle.duk_till.specs.Till.{TillOf}
use Rattle.duk_tree.specs.Serial.{Serial}
use Rattle.duk_books.specs.Agree.{AreOfDifferentNumbers}
use Rattle.duk_books.specs.Books.{BooksOf, Meanings}
use Rattle.duk_stations.specs.Places.{ChangesOnly, IsAt}
use Rattle.duk_stations.specs.Owner.{IsOwner}
use Rattle.duk_stations.specs.declared.owner.Owner.{Owner}
use Rattle.duk_books.specs.Came.{IsAsked}
use Rattle.duk_books.proofs.agreement.Facts.{GrowBeside, IsCalledBack, IsSold, Lists, the_only}
use Rattle.duk_books.proofs.agreement.HostHolds.{HostHolds}
use Rattle.duk_stations.proofs.Owners.{HaveOneOwner}
use Rattle.duk_books.proofs.agreement.QuietCalls.{ListsHold}
use Rattle.duk_books.proofs.agreement.Registers.{RegistersHold, SetHolds}
use Rattle.duk_stations.proofs.PlacesInLists.{each_after}
use Rattle.duk_stations.proofs.Terminals.{StateHas}
use Rattle.duk_books.proofs.agreement.Tills.{IsGood, TillHolds, till_beside}

-- all that was begun, with what was sent, answered, owned and sold
abbrev pub lists_of : {C B J I : Type 0} → BooksOf C B J I → List Serial → Lists
lists_of books begun = record { begun = begun; requests = books.requests; answers = books.answers; owners = books.owners; sales = books.sales }

pub record BooksHold {C B J I : Type 0} (m : Meanings C B J I) (books : BooksOf C B J I) (begun : List Serial) : Type 0 where
  pub one_owner : HaveOneOwner books.owners
  pub begun_owned : (ksn : Serial) → Contains begun ksn → (t : ℕ) × IsOwner books.owners ksn.iksn t
  pub asked : (ksn : Serial) (amount : ℕ) → IsAsked books.requests ksn amount → Contains begun ksn
  pub one_amount : (ksn : Serial) (one other : ℕ) → IsAsked books.requests ksn one → IsAsked books.requests ksn other → one ≡ other
  pub called_back : (ksn : Serial) → IsCalledBack books.requests ksn → Contains begun ksn
  pub sold : (t : ℕ) (ksn : Serial) (amount : ℕ) → IsSold (lists_of books begun) t ksn amount → IsGood (lists_of books begun) t ksn amount
  pub once : AllPairs AreOfDifferentNumbers books.sales
  pub tills : (t : ℕ) (till : TillOf C B) → IsAt books.tills t till → TillHolds m (lists_of books begun) t till
  pub host : HostHolds m.host books.requests books.answers books.host

abbrev pub Holds : {C B J I : Type 0} → Meanings C B J I → BooksOf C B J I → Type 0
Holds m books = (begun : List Serial) × BooksHold m books begun

-- ---- tills in their places

pub tills_after : {C B J I : Type 0} (m : Meanings C B J I) (t : ℕ) (P : TillOf C B → TillOf C B → Type 0) (old new : List (TillOf C B)) (before after : Lists) → (change : ChangesOnly t P old new)
    → ((u : ℕ) (till : TillOf C B) → IsAt old u till → TillHolds m before u till) → ((u : ℕ) → u ≢ t → GrowBeside u before after) → TillHolds m after t change.after
    → (u : ℕ) (till : TillOf C B) → IsAt new u till → TillHolds m after u till
tills_after m t P old new before after change tills grow now =
    each_after t P old new change (TillHolds m before) (TillHolds m after) tills (λ u till apart holds. till_beside m u before after till (grow u apart) holds) now

-- ---- lists that stay

pub grow_same : (t : ℕ) (lists : Lists) → GrowBeside t lists lists
grow_same t lists = record {
  owner = λ iksn u is. is;
  begun = λ ksn has owned. (has, owned);
  begun_stays = λ ksn has. has;
  asked = λ ksn amount is owned. (is, owned);
  asked_stays = λ ksn amount is. is;
  called_back = λ ksn is owned. is;
  replied = λ ksn code is. is;
  undone = λ ksn is. is;
  sold = λ ksn amount is. is;
  sold_stays = λ ksn amount is. is;
}

-- what is of two tills is of one
pub one_till : (owners : List Owner) (iksn t u : ℕ) → IsOwner owners iksn t → IsOwner owners iksn u → u ≡ t
one_till owners iksn t u one other = one.alone u other.owns

-- ---- what is known of one till

-- what a till knows of the lists
pub lists_hold : {C B J I : Type 0} (m : Meanings C B J I) (books : BooksOf C B J I) (begun : List Serial) → BooksHold m books begun → (t : ℕ) → ListsHold (lists_of books begun) t
lists_hold m books begun holds t = record { sold = holds.sold t; asked = holds.asked; called_back = holds.called_back }

-- what holds of its registers
pub set_of : {C B J I : Type 0} (m : Meanings C B J I) (lists : Lists) (t : ℕ) (till : TillOf C B) (set : _) (pending : _) → TillHolds m lists t till → till.terminal.state ≡ term_state.Loaded set pending → SetHolds lists t set
set_of m lists t till set pending now is = subst (StateHas (RegistersHold lists t)) is now.terminal.state

-- each number that began is owned, with one more that is
pub begun_owned_too : {C B J I : Type 0} (m : Meanings C B J I) (books : BooksOf C B J I) (begun : List Serial) → BooksHold m books begun → (t : ℕ) (ksn : Serial) → IsOwner books.owners ksn.iksn t
    → (other : Serial) → Contains (begun ++ ksn ∷ []) other → (u : ℕ) × IsOwner books.owners other.iksn u
begun_owned_too m books begun holds t ksn owned other has = elim (Contains-append_cases begun (ksn ∷ []) other has) [
  | inl before ↦ holds.begun_owned other before
  | inr here ↦ (t, subst (λ (it : Serial). IsOwner books.owners it.iksn t) (sym (the_only ksn other here)) owned)
]
