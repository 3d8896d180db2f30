use Rattle.std.proofs.Common.{◌∙◌}
use Rattle.duk_store.proofs.LogRecords.{says_number}
use Rattle.duk_store.proofs.log_format.LogFormatFormat.write.Goals as goal

pub returns-clause-written : goal.returns-clause-written
returns-clause-written c =
    let number = c.args.item.now in
    says_number c.args._identity c.args._place c.args._followers number c.copy_from_slice.new.self (c.serials.ensures.ten number) (c.serials.ensures.found number c.number_bytes.ensures.serial) c.requires.fits (c.copy_from_slice.ensures.after ∙ c.number_bytes.ensures.bytes)
