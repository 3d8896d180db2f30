use Rattle.std.proofs.Common.{◌∙◌}
use Rattle.duk_journal.proofs.CheckedContents.{says_checked}
use Rattle.duk_journal.proofs.checked_format.CheckedFormatFormat.write.Goals as goal

pub returns-clause-written : goal.returns-clause-written
returns-clause-written c =
    let fields = c.bytes-plain.ensures.fields in
    let stands = c.requires.stands in
    says_checked c.args.identity c.args.place c.args.followers c.args.item.now c.as_slice.result.now c.copy_from_slice.new.self c.serials.ensures.ten
    (record {
      serial = fields.serial;
      usable = stands.usable;
      stands = stands.stands;
      figure_fits = fields.figure_fits;
      mac_length = fields.mac_length;
    })
    c.requires.fits
    (c.as_slice.ensures.value ∙ c.bytes-plain.ensures.bytes)
    (c.copy_from_slice.ensures.after ∙ c.as_slice-2.ensures.value ∙ c.with_check-checked.ensures.bytes)
