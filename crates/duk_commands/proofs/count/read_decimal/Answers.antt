use Rattle.std.proofs.Common.{◌≡◌, ◌<◌, ◌+◌, ◌*◌, ◌-◌, ℕ, length, get_or, arith}
use Rattle.std.proofs.lemmas.Grind.{common_steps}
use Rattle.std.proofs.lemmas.List.Sums.{fold_more}
use Rattle.std.specs.Char.{IsAsciiDigit}
use Rattle.duk_commands.proofs.CountsAreRead.{too_great, digits_more}
use Rattle.duk_commands.proofs.count.read_decimal.Goals as goal

pub returns-then-number-from-clause-none : goal.returns-then-number-from-clause-none
returns-then-number-from-clause-none c =
    let i = c.loop-digit.digit-index in
    let text = c.args.text.now in
    let inside : i < length text = grind (arith, common_steps) in
    let more = fold_more (λ (number digit : ℕ). 10 * number + (digit - 48)) 0 text i 0 inside in
    let digit : c.from.result ≡ get_or text i 0 - 48 = grind (arith, common_steps) in
    too_great c.args.most text (i + 1) (omega (arith, more, digit, c.loop-digit.invariant.value))

pub loop-digit-preserved : goal.loop-digit-preserved
loop-digit-preserved c =
    let i = c.loop-digit.digit-index in
    let text = c.args.text.now in
    let inside : i < length text = grind (arith, common_steps) in
    let more = fold_more (λ (number digit : ℕ). 10 * number + (digit - 48)) 0 text i 0 inside in
    let digit : c.from.result ≡ get_or text i 0 - 48 = grind (arith, common_steps) in
    let is_digit : IsAsciiDigit (get_or text i 0) = grind (arith, common_steps) in
    record {
      value = omega (arith, more, digit, c.loop-digit.invariant.value);
      digits = digits_more text i inside c.loop-digit.invariant.digits is_digit;
      fits = omega arith;
    }
