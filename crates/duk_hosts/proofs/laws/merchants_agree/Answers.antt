use Rattle.std.proofs.Common.{ap, ◌∙◌}
use Rattle.duk_till.specs.declared.state.TillState.TheVariants.{Running}
use Rattle.duk_hosts.specs.Events.{kept_after}
use Rattle.duk_hosts.proofs.Agreement.{agree_on, not_sold, standing_told, told_stand}
use Rattle.duk_hosts.proofs.Origins.{AnswerLaws, keeps_of}
use Rattle.duk_hosts.proofs.Sold.{sold_once}
use Rattle.duk_hosts.proofs.TillSends.{TillLaws}
use Rattle.duk_hosts.proofs.Totals.{TotalLaws, equal_or_open, no_less, none_open}
use Rattle.duk_hosts.proofs.Turns.{StepLaws}
use Rattle.duk_hosts.proofs.laws.merchants_agree.Goals as goal
use Rattle.duk_hosts.proofs.laws.merchants_agree.Goals.{After-lifetimes-2}

module _ (g : _) (c : After-lifetimes-2 g) where
  steps : StepLaws
  steps = record { dismissed = c.steps.ensures.dismissed; settled = c.steps.ensures.settled; candidate = c.steps.ensures.candidate }

  answers : AnswerLaws
  answers = record {
    steps = steps;
    at_most_once = c.at_most_once.ensures;
    kept = c.kept.ensures;
    one_answer = c.one_reading.ensures.answer;
    reply = c.payments.ensures.reply;
  }

  laws : TillLaws g.C.Cell.meaning g.J.Cell.meaning
  laws = record {
    frames = record { one_request = c.one_reading.ensures.request; one_reversal = c.one_reading-2.ensures.reversal; apart = λ bytes request reversal is. (c.apart_from_payments.ensures.requests bytes request is).0 reversal };
    reading = c.one_reading-3.ensures;
    kept = c.lifetimes-2.ensures.kept;
    begun = c.lifetimes-2.ensures.begun;
    numbers = c.lifetimes-2.ensures.numbers;
    ever = c.lifetimes-2.ensures.ever;
    request = c.requests.ensures.request;
    reversal = c.reversals.ensures;
  }

  totals : TotalLaws
  totals = record { stands = c.totals.ensures.stands; nothing_else = c.totals.ensures.nothing_else }

pub returns-clause-told : goal.returns-clause-told
returns-clause-told g c = λ hosts book events iksn calls history till pays life.
    let keeps = keeps_of (answers g c) hosts book events iksn calls pays in
    let told = told_stand g.C.Cell.meaning g.J.Cell.meaning (laws g c) c.lifetimes-2.ensures.alike calls history till life iksn (kept_after book events) keeps in
    record {
      once = sold_once history;
      told_stand = told;
      no_less = no_less (totals g c) history iksn (kept_after book events) keeps.numbers told;
    }

pub returns-clause-but_open : goal.returns-clause-but_open
returns-clause-but_open g c = λ hosts book events iksn calls history till last pays life runs.
    let keeps = keeps_of (answers g c) hosts book events iksn calls pays in
    let told = told_stand g.C.Cell.meaning g.J.Cell.meaning (laws g c) c.lifetimes-2.ensures.alike calls history till life iksn (kept_after book events) keeps in
    let standing = standing_told g.C.Cell.meaning g.J.Cell.meaning (laws g c) c.lifetimes-2.ensures.alike calls history till life iksn (kept_after book events) keeps last runs in
    record {
      standing_told = standing;
      totals = equal_or_open (totals g c) history iksn (kept_after book events) keeps.numbers told last standing
          (λ ksn amount opened. not_sold g.C.Cell.meaning g.J.Cell.meaning (laws g c) c.lifetimes-2.ensures.alike calls history till life iksn (kept_after book events) keeps ksn amount (runs ∙ ap Running opened));
    }

pub returns-clause-at_rest : goal.returns-clause-at_rest
returns-clause-at_rest g c = λ hosts book events iksn calls history till pays life rest.
    let keeps = keeps_of (answers g c) hosts book events iksn calls pays in
    let told = told_stand g.C.Cell.meaning g.J.Cell.meaning (laws g c) c.lifetimes-2.ensures.alike calls history till life iksn (kept_after book events) keeps in
    let standing = standing_told g.C.Cell.meaning g.J.Cell.meaning (laws g c) c.lifetimes-2.ensures.alike calls history till life iksn (kept_after book events) keeps rest.last rest.runs in
    record {
      payments = agree_on g.C.Cell.meaning g.J.Cell.meaning (laws g c) c.lifetimes-2.ensures.alike calls history till life iksn (kept_after book events) keeps rest;
      totals = none_open (totals g c) history iksn (kept_after book events) keeps.numbers told rest.last standing rest.closed;
    }
