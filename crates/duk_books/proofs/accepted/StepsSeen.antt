-- What the outcome of a step says of answers.
use Rattle.std.proofs.Common.{◌≡◌, ℕ, inl, inr, sym, ap, subst}
use Rattle.duk_store.specs.Cell.{CellMeaning}
use Rattle.duk_term.specs.Load.{Loading}
use Rattle.duk_till.specs.Till.{TillOf}
use Rattle.duk_books.specs.Arm.{ArmsHost, ArmsTill, ArmsTillBook, ArmsTerminalCell}
use Rattle.duk_books.specs.Begin.{Begins}
use Rattle.duk_books.specs.Books.{BooksOf, FindsNoTill, Meanings}
use Rattle.duk_books.specs.Down.{IsDelivered}
use Rattle.duk_books.specs.Load.{TakesLoad}
use Rattle.duk_books.specs.Restart.{RestartsHost, TakesRestart}
use Rattle.duk_books.specs.Reverse.{Reverses}
use Rattle.duk_books.specs.Step.{Step}
use Rattle.duk_books.specs.Up.{IsAnswered, ReachesHost}
use Rattle.duk_books.specs.declared.event.End.{End}
use Rattle.duk_books.specs.declared.event.End.TheVariants as end
use Rattle.duk_books.specs.declared.event.Event.{Event}
use Rattle.duk_books.specs.declared.event.Event.TheVariants as event
use Rattle.duk_books.specs.declared.outcome.Outcome.{Outcome}
use Rattle.duk_books.specs.declared.outcome.Outcome.TheVariants as came

-- the outcome is none of those of an answer that is given or taken
abbrev pub IsOther : Outcome → Type 0
IsOther (came.Accepted k ksn code) = ⊥
IsOther (came.Repeated k ksn code) = ⊥
IsOther (came.Refused k ksn reason) = ⊥
IsOther (came.Reversed k ksn reversed state) = ⊥
IsOther (came.Done t ksn code) = ⊥
IsOther (came.Undone t ksn state) = ⊥
IsOther _ = Unit {0}

-- what a step is: the host gives an answer, a till takes one, or neither
pub data Seen {C B J I : Type 0} (m : Meanings C B J I) (old : BooksOf C B J I) (outcome : Outcome) (new : BooksOf C B J I) : Type 0 where
  given : (k : ℕ) → IsAnswered m old k outcome new → Seen m old outcome new
  taken : (k t : ℕ) → IsDelivered m old k t outcome new → Seen m old outcome new
  neither : new.answers ≡ old.answers → IsOther outcome → Seen m old outcome new

other_is : (outcome it : Outcome) → outcome ≡ it → IsOther it → IsOther outcome
other_is outcome it same is = subst IsOther (sym same) is

no_till_seen : {C B J I : Type 0} (m : Meanings C B J I) (old : BooksOf C B J I) (t : ℕ) (outcome : Outcome) (new : BooksOf C B J I) → FindsNoTill old t outcome new → Seen m old outcome new
no_till_seen m old t outcome new none = neither (ap (λ books. books.answers) none.same) (other_is outcome came.NoSuchTill none.outcome_is tt)

loaded_other : {C B : Type 0} (cell : CellMeaning C) (book : CellMeaning B) (t : ℕ) (asked : Loading) (outcome : Outcome) (before after : TillOf C B) → TakesLoad cell book t asked outcome before after → IsOther outcome
loaded_other cell book t asked (came.Loaded u iksn) before after is = tt
loaded_other cell book t asked (came.TillFaulted u why) before after is = tt
loaded_other cell book t asked _ before after is = absurd is

restarted_other : {C B : Type 0} (cell : CellMeaning C) (book : CellMeaning B) (t : ℕ) (outcome : Outcome) (before after : TillOf C B) → TakesRestart cell book t outcome before after → IsOther outcome
restarted_other cell book t (came.TillNext u next state) before after is = tt
restarted_other cell book t (came.TillFaulted u why) before after is = tt
restarted_other cell book t _ before after is = absurd is

begin_seen : {C B J I : Type 0} (m : Meanings C B J I) (old : BooksOf C B J I) (t : ℕ) (purchase : _) (outcome : Outcome) (new : BooksOf C B J I) → Begins m old t purchase outcome new → Seen m old outcome new
begin_seen m old t purchase (came.Sent u k ksn) new is = neither (ap (λ books. books.answers) is.1.rest) tt
begin_seen m old t purchase (came.TillFaulted u why) new is = neither (ap (λ books. books.answers) is.1.rest) tt
begin_seen m old t purchase came.NoSuchTill new is = neither (ap (λ books. books.answers) is.1) tt
begin_seen m old t purchase _ new is = absurd is

reverse_seen : {C B J I : Type 0} (m : Meanings C B J I) (old : BooksOf C B J I) (t : ℕ) (outcome : Outcome) (new : BooksOf C B J I) → Reverses m old t outcome new → Seen m old outcome new
reverse_seen m old t (came.Reversing u k ksn reversed) new is = neither (ap (λ books. books.answers) is.1.rest) tt
reverse_seen m old t (came.TillFaulted u why) new is = neither (ap (λ books. books.answers) is.1.rest) tt
reverse_seen m old t came.NoSuchTill new is = neither (ap (λ books. books.answers) is.1) tt
reverse_seen m old t _ new is = absurd is

up_seen : {C B J I : Type 0} (m : Meanings C B J I) (old : BooksOf C B J I) (k : ℕ) (outcome : Outcome) (new : BooksOf C B J I) → ReachesHost m old k outcome new → Seen m old outcome new
up_seen m old k came.NoSuchFrame new is = neither (ap (λ books. books.answers) is.1) tt
up_seen m old k (came.HostFaulted why) new is = neither (ap (λ books. books.answers) is.rest) tt
up_seen m old k (came.Accepted n ksn code) new is = given k is
up_seen m old k (came.Repeated n ksn code) new is = given k is
up_seen m old k (came.Refused n ksn reason) new is = given k is
up_seen m old k (came.Reversed n ksn reversed state) new is = given k is
up_seen m old k _ new is = absurd is.says

arm_host_seen : {C B J I : Type 0} (m : Meanings C B J I) (old : BooksOf C B J I) (steps : ℕ) (outcome : Outcome) (new : BooksOf C B J I) → ArmsHost m old steps outcome new → Seen m old outcome new
arm_host_seen m old steps (came.Armed armed passed) new is = neither (ap (λ books. books.answers) is.3) tt
arm_host_seen m old steps _ new is = absurd is

arm_till_seen : {C B J I : Type 0} (m : Meanings C B J I) (it : End) (t : ℕ) (change : TillOf C B → TillOf C B → Type 0) (old : BooksOf C B J I) (steps : ℕ) (outcome : Outcome) (new : BooksOf C B J I) → ArmsTill it t change old steps outcome new → Seen m old outcome new
arm_till_seen m it t change old steps came.NoSuchTill new is = neither (ap (λ books. books.answers) is.1) tt
arm_till_seen m it t change old steps (came.Armed armed passed) new is = neither (ap (λ books. books.answers) is.2.rest) tt
arm_till_seen m it t change old steps _ new is = absurd is

restart_host_seen : {C B J I : Type 0} (m : Meanings C B J I) (old : BooksOf C B J I) (outcome : Outcome) (new : BooksOf C B J I) → RestartsHost m old outcome new → Seen m old outcome new
restart_host_seen m old (came.HostKeeps kept) new is = neither (ap (λ books. books.answers) is.rest) tt
restart_host_seen m old (came.HostFaulted why) new is = neither (ap (λ books. books.answers) is.rest) tt
restart_host_seen m old _ new is = absurd is

-- each step is one of these
pub step_seen : {C B J I : Type 0} (m : Meanings C B J I) (old : BooksOf C B J I) (event : Event) (outcome : Outcome) (new : BooksOf C B J I) → Step m old event outcome new → Seen m old outcome new
step_seen m old (event.Load t iksn) outcome new step = elim step [
  | inl none ↦ no_till_seen m old t outcome new none
  | inr there ↦ elim there [
    | inl owned ↦ neither (ap (λ books. books.answers) owned.same) (other_is outcome (came.IksnElsewhere t) owned.outcome_is tt)
    | inr free ↦ elim free [
      | inl no_keys ↦ neither (ap (λ books. books.answers) no_keys.same) (other_is outcome (came.NoKeySet t) no_keys.outcome_is tt)
      | inr is ↦ neither (ap (λ books. books.answers) is.rest) (loaded_other m.cell m.book t is.asked outcome is.till.before is.till.after is.till.changed)
    ]
  ]
]
step_seen m old (event.Begin t purchase) outcome new step = begin_seen m old t purchase outcome new step
step_seen m old (event.Reverse t) outcome new step = reverse_seen m old t outcome new step
step_seen m old (event.Up k) outcome new step = up_seen m old k outcome new step
step_seen m old (event.Down k t) outcome new step = elim step [
  | inl none ↦ no_till_seen m old t outcome new none
  | inr there ↦ elim there [
    | inl missing ↦ neither (ap (λ books. books.answers) missing.same) (other_is outcome came.NoSuchFrame missing.outcome_is tt)
    | inr is ↦ taken k t is
  ]
]
step_seen m old (event.RestartTill t) outcome new step = elim step [
  | inl none ↦ no_till_seen m old t outcome new none
  | inr is ↦ neither (ap (λ books. books.answers) is.rest) (restarted_other m.cell m.book t outcome is.till.before is.till.after is.till.changed)
]
step_seen m old event.RestartHost outcome new step = restart_host_seen m old outcome new step
step_seen m old (event.Arm end.Host steps) outcome new step = arm_host_seen m old steps outcome new step
step_seen m old (event.Arm (end.Terminal t) steps) outcome new step = arm_till_seen m (end.Terminal t) t (ArmsTerminalCell m steps) old steps outcome new step
step_seen m old (event.Arm (end.Book t) steps) outcome new step = arm_till_seen m (end.Book t) t (ArmsTillBook m steps) old steps outcome new step
