use Rattle.std.proofs.Common.{arith}
use Rattle.duk_journal.specs.CheckedFormat.{unchecked}
use Rattle.duk_journal.proofs.CheckedContents.{checked_length}
use Rattle.duk_journal.proofs.SaidEntries.{same_contents_said}
use Rattle.duk_journal.proofs.checked_format.CheckedFormatFormat.laws.Goals as goal

pub returns : goal.returns
returns c = record {
  has_contents = omega arith;
  one_header = omega arith;
  group_fits = omega arith;
  whole = checked_length;
  followers_fit = λ identity place followers entry contents says. says.says.followers_fit;
  one_reading = λ identity place followers others entry other contents one two.
      same_contents_said c.serials.ensures.ten c.serials.ensures.found followers others entry other (unchecked contents) one.says two.says;
}
