-- Who owns an initial key serial number is one of the tills.
use Rattle.std.proofs.Common.{◌≡◌, ◌⊎◌, ℕ, List, inl, inr, sym, ap, subst}
use Rattle.duk_term.specs.declared.fault.TermFault.TheVariants as term_fault
use Rattle.duk_till.specs.declared.fault.TillFault.TheVariants as fault
use Rattle.duk_books.specs.Books.{BooksOf, Meanings}
use Rattle.duk_stations.specs.Places.{HasOne}
use Rattle.duk_books.specs.Load.{ChangesOwners}
use Rattle.duk_stations.specs.Owner.{Owns}
use Rattle.duk_books.specs.Reached.{Reached}
use Rattle.duk_books.specs.declared.outcome.Outcome.{Outcome}
use Rattle.duk_books.specs.declared.outcome.Outcome.TheVariants as came
use Rattle.duk_stations.specs.declared.owner.Owner.{Owner}
use Rattle.duk_stations.proofs.Owners.{owned_before as owned_then}
use Rattle.duk_stations.proofs.PlacesInLists.{stays_there}
use Rattle.duk_books.proofs.agreement.Facts.{none_in}
use Rattle.duk_books.proofs.moves.ReachedByMoves.{reached_all}
use Rattle.duk_books.proofs.moves.StepChanges.{Change, answered, host, load, move_change, nothing, quiet, reverse, send, tell, unanswered}

-- a till joins the owners, or nobody does
owned_by_load : (outcome : Outcome) (old : List Owner) (loaded u : ℕ) (new : List Owner) (iksn t : ℕ) → ChangesOwners outcome old loaded u new → Owns new iksn t → Owns old iksn t ⊎ (t ≡ u)
owned_by_load (came.Loaded v number) old loaded u new iksn t changes owns = owned_then old loaded u new iksn t changes owns
owned_by_load (came.TillFaulted v (fault.Terminal (term_fault.Store why))) old loaded u new iksn t changes owns = owned_then old loaded u new iksn t changes owns
owned_by_load (came.TillFaulted v _) old loaded u new iksn t changes owns = inl (subst (λ owners. Owns owners iksn t) changes owns)
owned_by_load _ old loaded u new iksn t changes owns = inl (subst (λ owners. Owns owners iksn t) changes owns)

module _ {C B J I : Type 0} (m : Meanings C B J I) where
  abbrev OwnersAreTills : BooksOf C B J I → Type 0
  OwnersAreTills books = (iksn t : ℕ) → Owns books.owners iksn t → HasOne books.tills t

  with_owners : (old new : BooksOf C B J I) → new.owners ≡ old.owners → ((t : ℕ) → HasOne old.tills t → HasOne new.tills t) → OwnersAreTills old → OwnersAreTills new
  with_owners old new same stay are iksn t owns = stay t (are iksn t (subst (λ owners. Owns owners iksn t) same owns))

  with_tills : (old new : BooksOf C B J I) → new.owners ≡ old.owners → new.tills ≡ old.tills → OwnersAreTills old → OwnersAreTills new
  with_tills old new owners tills are = with_owners old new owners (λ t one. subst (λ list. HasOne list t) (sym tills) one) are

  after_change : (old new : BooksOf C B J I) → Change m old new → OwnersAreTills old → OwnersAreTills new
  after_change old new (nothing same) are = subst OwnersAreTills (sym same) are
  after_change old new (quiet t call is change rest) are = with_owners old new (ap (λ it. it.owners) rest) (λ u one. stays_there t _ old.tills new.tills change u one) are
  after_change old new (load t loaded outcome is) are = λ iksn u owns.
      stays_there t _ old.tills new.tills is.till u (elim (owned_by_load outcome old.owners loaded t new.owners iksn u is.owners owns) [
        | inl before ↦ are iksn u before
        | inr same ↦ subst (λ it. HasOne old.tills it) (sym same) is.may.there
      ])
  after_change old new (send t purchase begun change rest) are = with_owners old new (ap (λ it. it.owners) rest) (λ u one. stays_there t _ old.tills new.tills change u one) are
  after_change old new (reverse t begun sent is_reversal change rest) are = with_owners old new (ap (λ it. it.owners) rest) (λ u one. stays_there t _ old.tills new.tills change u one) are
  after_change old new (tell t call telling change takes rest) are = with_owners old new (ap (λ it. it.owners) rest) (λ u one. stays_there t _ old.tills new.tills change u one) are
  after_change old new (answered frame answer sent is rest) are = with_tills old new (ap (λ it. it.owners) rest) (ap (λ it. it.tills) rest) are
  after_change old new (unanswered frame answers why sent is rest) are = with_tills old new (ap (λ it. it.owners) rest) (ap (λ it. it.tills) rest) are
  after_change old new (host touches rest) are = with_tills old new (ap (λ it. it.owners) rest) (ap (λ it. it.tills) rest) are

  pub owners_are_tills : (books : BooksOf C B J I) → Reached m books → OwnersAreTills books
  owners_are_tills books reached = reached_all m OwnersAreTills
      (λ first is iksn t owns. absurd (none_in (record { iksn = iksn; t = t }) (subst (λ owners. Owns owners iksn t) is.no_owners owns)))
      (λ old new are moves. after_change old new (move_change m old new moves) are) books reached
