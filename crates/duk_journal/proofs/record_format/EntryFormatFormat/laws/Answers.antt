use Rattle.std.proofs.Common.{◌+◌, ◌∙◌, ap, arith, length}
use Rattle.duk_journal.proofs.FieldPlaces.{contents_length}
use Rattle.duk_journal.proofs.SaidEntries.{same_contents_said}
use Rattle.duk_journal.proofs.record_format.EntryFormatFormat.laws.Goals as goal

pub returns : goal.returns
returns c =
    let ten = c.serials.ensures.ten in
    record {
      has_contents = omega arith;
      one_header = omega arith;
      group_fits = omega arith;
      whole = λ identity place followers entry contents says.
          ap (λ bytes. length bytes + 1) says.written ∙ ap (λ n. n + 1) (contents_length followers entry ten says.entry_is.mac_length);
      followers_fit = λ identity place followers entry contents says. says.followers_fit;
      one_reading = λ identity place followers others entry other contents one two.
          same_contents_said ten c.serials.ensures.found followers others entry other contents one two;
    }
