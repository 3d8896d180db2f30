use Rattle.std.proofs.Common.{◌≡◌, ◌+◌, ◌-◌, ◌*◌, ◌∙◌, ℕ, arith, drop, length-set, subst, take}
use Rattle.duk_journal_host.specs.declared.settlement.Settled.{Settled}
use Rattle.duk_calls.specs.Answer.{part_at}
use Rattle.duk_calls.specs.Hosts.{SaysSettled}
use Rattle.duk_calls.proofs.Places.{written_below}
use Rattle.duk_calls.proofs.answering.settled_in.Goals as goal

pub loop-i-preserved : goal.loop-i-preserved
loop-i-preserved c =
    let bytes = c.args.bytes.now in
    let settled = c.loop-i.settled in
    let i = c.loop-i.i in
    let found = c.settled_or_nothing.result in
    let width : 64 * i + 64 - 64 * i ≡ 64 = omega arith in
    let Says : ℕ → Settled → Type 0 = λ p found. (one : Settled) → SaysSettled (part_at 64 bytes p) one → SaysSettled (part_at 64 bytes p) found in
    let here : Says i found = subst (λ n. (one : Settled) → SaysSettled (take n (drop (64 * i) bytes)) one → SaysSettled (take n (drop (64 * i) bytes)) found) width c.settled_or_nothing.ensures in
    record {
      size = length-set settled i found ∙ c.loop-i.invariant.size;
      read = λ p h none one says.
          written_below Says settled i found none (omega (arith, c.loop-i.invariant.size, c.loop-i-test.true, c.requires.few)) (λ q before one says. c.loop-i.invariant.read q before none one says) here p h one says;
    }

pub returns-clause-read : goal.returns-clause-read
returns-clause-read c = λ i h none one says. c.loop-i.invariant.read i (omega (arith, h, c.loop-i-test.false)) none one says
