-- The host keeps its keys, and who owns an initial key serial number owns it for good.
use Rattle.std.proofs.Common.{◌≡◌, ◌∷◌, [], ℕ, List, inl, inr, ap, ◌∙◌}
use Rattle.duk_host.specs.declared.fault.HostFault.{HostFault}
use Rattle.duk_host.specs.declared.fault.HostFault.TheVariants as host_fault
use Rattle.duk_journal_host.specs.Group.{GroupRefused}
use Rattle.duk_journal_host.specs.Host.{HostMeaning, HostOf}
use Rattle.duk_journal_host.specs.Restart.{HostRestartRefused}
use Rattle.duk_term.specs.declared.fault.TermFault.TheVariants as term_fault
use Rattle.duk_till.specs.declared.fault.TillFault.TheVariants as fault
use Rattle.duk_stations.specs.declared.owner.Owner.{Owner}
use Rattle.duk_stations.proofs.Owners.{OwnersGo}
use Rattle.duk_books.specs.Books.{BooksOf, Meanings}
use Rattle.duk_books.specs.Load.{ChangesOwners}
use Rattle.duk_books.specs.declared.outcome.Outcome.{Outcome}
use Rattle.duk_books.specs.declared.outcome.Outcome.TheVariants as came
use Rattle.duk_books.proofs.moves.StepChanges.{Change, TouchesHost, answered, host, host_armed, host_restart_refused, host_restarted, load, nothing, quiet, reverse, send, tell, unanswered}

pub refused_keys : {J I : Type 0} (meaning : HostMeaning J I) (frames : List (List ℕ)) (old new : HostOf J I) (answers : List (List ℕ)) (why : HostFault) → GroupRefused meaning frames old new answers why → new.keys ≡ old.keys
refused_keys meaning frames old new answers host_fault.NoMemory is = ap (λ (it : HostOf _ _). it.keys) is.stopped ∙ is.answers_are.ends.keys
refused_keys meaning frames old new answers (host_fault.Store why) is = is.0.ends.keys
refused_keys meaning frames old new answers host_fault.Stopped is = ap (λ (it : HostOf _ _). it.keys) is.1
refused_keys meaning frames old new answers _ is = absurd is

restart_refused_keys : {J I : Type 0} (meaning : HostMeaning J I) (old new : HostOf J I) (why : HostFault) → HostRestartRefused meaning.journal old new why → new.keys ≡ old.keys
restart_refused_keys meaning old new (host_fault.Store why) is = is.ends.keys
restart_refused_keys meaning old new host_fault.NoMemory is = is.ends.keys
restart_refused_keys meaning old new _ is = absurd is

pub touched_keys : {C B J I : Type 0} (m : Meanings C B J I) (old new : HostOf J I) → TouchesHost m old new → new.keys ≡ old.keys
touched_keys m old new (host_restarted found is) = is.ends.keys
touched_keys m old new (host_restart_refused why is) = restart_refused_keys m.host old new why is
touched_keys m old new (host_armed steps is) = is.ends.keys

-- owners go as a load changes them
pub owners_go : (outcome : Outcome) (old : List Owner) (iksn t : ℕ) (new : List Owner) → ChangesOwners outcome old iksn t new → OwnersGo old new
owners_go (came.Loaded v number) old iksn t new changes = inr (iksn, t, changes)
owners_go (came.TillFaulted v (fault.Terminal (term_fault.Store why))) old iksn t new changes = inr (iksn, t, changes)
owners_go (came.TillFaulted v _) old iksn t new changes = inl changes
owners_go _ old iksn t new changes = inl changes

-- a move leaves the keys, and the owners go as a load changes them
pub record Leaves {C B J I : Type 0} (old new : BooksOf C B J I) : Type 0 where
  pub keys : new.host.keys ≡ old.host.keys
  pub owners : OwnersGo old.owners new.owners

module _ {C B J I : Type 0} (m : Meanings C B J I) (old new : BooksOf C B J I) where
  leaves_all : new.host.keys ≡ old.host.keys → new.owners ≡ old.owners → Leaves old new
  leaves_all keys owners = record { keys = keys; owners = inl owners }

  pub change_leaves : Change m old new → Leaves old new
  change_leaves (nothing same) = leaves_all (ap (λ it. it.host.keys) same) (ap (λ it. it.owners) same)
  change_leaves (quiet t call is change rest) = leaves_all (ap (λ it. it.host.keys) rest) (ap (λ it. it.owners) rest)
  change_leaves (load t iksn outcome is) = record { keys = ap (λ it. it.host.keys) is.rest; owners = owners_go outcome old.owners iksn t new.owners is.owners }
  change_leaves (send t purchase it change rest) = leaves_all (ap (λ it. it.host.keys) rest) (ap (λ it. it.owners) rest)
  change_leaves (reverse t it sent is_reversal change rest) = leaves_all (ap (λ it. it.host.keys) rest) (ap (λ it. it.owners) rest)
  change_leaves (tell t call telling change takes rest) = leaves_all (ap (λ it. it.host.keys) rest) (ap (λ it. it.owners) rest)
  change_leaves (answered frame answer sent is rest) = leaves_all is.ends.keys (ap (λ it. it.owners) rest)
  change_leaves (unanswered frame answers why sent is rest) = leaves_all (refused_keys m.host (frame.items ∷ []) old.host new.host answers why is) (ap (λ it. it.owners) rest)
  change_leaves (host touches rest) = leaves_all (touched_keys m old.host new.host touches) (ap (λ it. it.owners) rest)

pub change_keys : {C B J I : Type 0} (m : Meanings C B J I) (old new : BooksOf C B J I) → Change m old new → new.host.keys ≡ old.host.keys
change_keys m old new change = (change_leaves m old new change).keys
