-- What a settlement says of a number: this project's own.
use Rattle.std.specs.Prelude.{◌≡◌, ℕ, List, Contains}
use Rattle.duk_tree.specs.Serial.{Serial}
use Rattle.duk_journal_host.specs.Steps.{IsAnswerOf}
use Rattle.duk_journal_host.specs.declared.settlement.Settled.{Settled}
use Rattle.duk_journal_host.specs.declared.settlement.Settled.TheVariants as settled
use Rattle.duk_journal_host.specs.declared.settlement.Settlement.{Settlement}
use Rattle.duk_journal_host.specs.declared.settlement.Settlement.TheVariants.{Full, Kept, KnownAgain, Used}
use Rattle.duk_hosts.specs.Events.{Event, Hosts, Outcome, all_outcomes}

-- it is settled with an outcome, now or before
abbrev pub HasOutcome : {T : Type 0} → Settlement T → Type 0
HasOutcome (Kept outcome) = Unit {0}
HasOutcome (KnownAgain outcome) = Unit {0}
HasOutcome _ = ⊥

-- it is known again, or refused as of a used number: nothing is kept
abbrev pub IsOfBefore : {T : Type 0} → Settlement T → Type 0
IsOfBefore (KnownAgain outcome) = Unit {0}
IsOfBefore Used = Unit {0}
IsOfBefore _ = ⊥

-- it is refused for want of room
abbrev pub HasNoRoom : {T : Type 0} → Settlement T → Type 0
HasNoRoom Full = Unit {0}
HasNoRoom _ = ⊥

abbrev pub IsSettledAgain : Settled → Type 0
IsSettledAgain (settled.Payment purchase settlement) = IsOfBefore settlement
IsSettledAgain (settled.Reversal reversal settlement) = IsOfBefore settlement

abbrev pub FindsNoRoom : Settled → Type 0
FindsNoRoom (settled.Payment purchase settlement) = HasNoRoom settlement
FindsNoRoom (settled.Reversal reversal settlement) = HasNoRoom settlement

-- a payment of this number is accepted
abbrev pub AcceptsPayment : Serial → Settled → Type 0
AcceptsPayment number (settled.Payment purchase settlement) =
    (purchase.number ≡ number) × HasOutcome settlement
AcceptsPayment number (settled.Reversal reversal settlement) = ⊥

-- where it is a payment of this number, it is refused as of a used number
abbrev pub RefusesPayment : Serial → Settled → Type 0
RefusesPayment number (settled.Payment purchase settlement) =
    purchase.number ≡ number → settlement ≡ Used
RefusesPayment number (settled.Reversal reversal settlement) = Unit {0}

-- a payment of this number was accepted in these events, and this is its answer
pub record WasAccepted (hosts : Hosts) (events : List Event) (number : Serial) (answer : List ℕ)
    : Type 0 where
  pub outcome : Outcome
  pub settled : Contains (all_outcomes events) outcome
  pub accepts : AcceptsPayment number outcome.settled
  pub answers : IsAnswerOf hosts.keys outcome.settled answer
