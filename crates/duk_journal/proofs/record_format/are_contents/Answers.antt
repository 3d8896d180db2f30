use Rattle.std.proofs.Common.{◌∙◌, arith, sym}
use Rattle.std.specs.Cmp.Lexicographic.{bytes_decides, same_text}
use Rattle.duk_journal.proofs.record_format.are_contents.Goals as goal

pub returns : goal.returns
returns c =
    let bytes = c.args.bytes.now in
    let fields = c.bytes-written.ensures.fields in
    let written = c.as_slice.ensures.value ∙ c.bytes-written.ensures.bytes in (
      (λ is.
          let may = c.may_be_kept.ensures.0 c.if-not-may_be_kept.false in
          record {
            entry_is = record {
              serial = fields.serial;
              usable = may.usable;
              stands = may.stands;
              figure_fits = fields.figure_fits;
              mac_length = fields.mac_length;
            };
            followers_fit = omega (arith, c.if-contents-ge-MOST_OF_GROUP.false);
            written = same_text bytes c.as_slice.result.now (sym is ∙ c.eq.ensures) ∙ written;
          }),
      (λ are. c.eq.ensures ∙ (bytes_decides bytes c.as_slice.result.now).1 (are.written ∙ sym written)),
    )
