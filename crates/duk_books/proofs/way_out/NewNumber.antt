-- The number that a till's terminal takes next is new: nothing was sent, kept, answered or sold under it.
use Rattle.std.proofs.Common.{◌≡◌, ◌<◌, ℕ, List, Option, Contains, refl, subst, arith}
use Rattle.duk_frame.specs.declared.code.Code.{Code}
use Rattle.duk_journal.specs.Groups.{Entries}
use Rattle.duk_journal.specs.Standing.{numbers_in, payment_entry, used_by}
use Rattle.duk_journal_host.specs.Host.{JudgesBy}
use Rattle.duk_regs.specs.Registers.{RegisterSet}
use Rattle.duk_term.specs.Begin.{TakesNumber}
use Rattle.duk_term.specs.Terminal.{serial_of}
use Rattle.duk_term.specs.declared.state.Pending.{Pending}
use Rattle.duk_term.specs.declared.state.State.TheVariants.{Loaded}
use Rattle.duk_till.specs.History.{payment_of}
use Rattle.duk_till.specs.Till.{TillOf}
use Rattle.duk_books.specs.Books.{BooksOf, Meanings}
use Rattle.duk_stations.specs.Places.{IsAt}
use Rattle.duk_books.specs.NoUsedKey.{IfLoaded, InEachTill, OwnsAboveUsed}
use Rattle.duk_books.specs.Reached.{Reached}
use Rattle.duk_books.specs.Sales.{sale_of}
use Rattle.duk_books.proofs.accepted.EndsOnce.{reached_hold}
use Rattle.duk_books.proofs.agreement.BooksHold.{BooksHold, lists_of, set_of}
use Rattle.duk_books.proofs.agreement.Facts.{IsRepliedTo, the_one}
use Rattle.duk_books.proofs.agreement.HostHolds.{EntriesHold, flat_in}
use Rattle.duk_books.proofs.agreement.QuietCalls.{is_fresh}
use Rattle.duk_books.proofs.calm_stores.KnownStores.{StoreLaws}
use Rattle.duk_books.proofs.moves.HostFinds.{judged_finds}
use Rattle.duk_books.proofs.way_out.HostReverses.{not_used}

module _ {C B J I : Type 0} (m : Meanings C B J I) (laws : StoreLaws m)
    (above_used : (books : BooksOf C B J I) → Reached m books → InEachTill m (OwnsAboveUsed books.host.keys books.requests books.owners) books.tills) (old : BooksOf C B J I) (reached : Reached m old) (t : ℕ) (till : TillOf C B) (at : IsAt old.tills t till)
    (set left : RegisterSet) (key : List ℕ) (pending : Option Pending) (had : till.terminal.state ≡ Loaded set pending) (takes : TakesNumber set key left) where
  -- the registers stand above all numbers that were used
  pub above : OwnsAboveUsed old.host.keys old.requests old.owners t set
  above = subst (IfLoaded (OwnsAboveUsed old.host.keys old.requests old.owners t)) had (above_used old reached t till at).registers

  held : (begun : List _) × BooksHold m old begun
  held = (reached_hold m laws.books old reached).holds

  -- no purchase began with it
  not_begun : ¬ Contains held.0 (serial_of set)
  not_begun = is_fresh laws.books.calls m t (lists_of old held.0) set left key (serial_of set) takes refl (set_of m (lists_of old held.0) t till set pending (held.1.tills t till at) had)

  entries_hold : (entries : Entries) → JudgesBy m.host old.host entries → EntriesHold old.requests old.answers entries
  entries_hold entries judges = judged_finds m.host (EntriesHold old.requests old.answers) old.host entries held.1.host judges

  pub next_is_new : (entries : Entries) → JudgesBy m.host old.host entries → ¬ Contains (used_by entries) (serial_of set)
  next_is_new entries judges =
      not_used old.requests entries (serial_of set) (entries_hold entries judges).came
      (λ used. let below : set.counter < set.counter = above.above.above (serial_of set) used refl in omega (arith, below))
      (λ back. not_begun (held.1.called_back (serial_of set) back))

  pub not_replied : (entries : Entries) → JudgesBy m.host old.host entries → (code : Code) → ¬ IsRepliedTo old.answers (serial_of set) code
  not_replied entries judges code replied =
      let has = (entries_hold entries judges).replied (serial_of set) code replied in
      next_is_new entries judges (flat_in numbers_in entries (payment_entry (serial_of set) has.amount code has.mac) (serial_of set) has.kept (the_one (serial_of set)))

  pub not_sold : (u amount : ℕ) → ¬ Contains old.sales (sale_of u (payment_of (serial_of set) amount))
  not_sold u amount sold = not_begun (held.1.asked (serial_of set) amount (held.1.sold u (serial_of set) amount sold).awaited.asked)
