use Rattle.std.proofs.Common.{◌+◌, ◌∙◌, ap, arith, length}
use Rattle.duk_ledger.proofs.SaidIssues.{one_said, whole}
use Rattle.duk_ledger.proofs.format.IssuedFormatFormat.laws.Goals as goal

pub returns : goal.returns
returns c = record {
  has_contents = omega arith;
  one_header = omega arith;
  group_fits = omega arith;
  whole = λ identity place followers issued contents says. ap (λ bytes. length bytes + 1) says.written ∙ ap (λ n. n + 1) (whole c.serials.ensures.ten identity place issued says.fields);
  followers_fit = λ identity place followers issued contents says. let none = says.alone in omega (arith, none);
  one_reading = λ identity place followers others one other contents first second. one_said c.serials.ensures.ten c.serials.ensures.found identity place followers others one other contents first second;
}
