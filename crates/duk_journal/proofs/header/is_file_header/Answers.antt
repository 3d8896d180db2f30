use Rattle.std.proofs.Common.{◌∙◌, ap, sym}
use Rattle.std.specs.Cmp.Lexicographic.{bytes_decides, same_text}
use Rattle.duk_journal.specs.Header.{header_of, identity_of}
use Rattle.duk_journal.proofs.CheckedContents.{identity_back}
use Rattle.duk_journal.proofs.header.is_file_header.Goals as goal

pub returns : goal.returns
returns c =
    let bytes = c.args.«record».now in
    let written = c.as_slice.ensures.value ∙ c.file_header-written.ensures.bytes in (
      (λ is. (c.identity_in.result, rw c.identity_in.ensures.identity c.identity_in.ensures.fits, same_text bytes c.as_slice.result.now (sym is ∙ c.eq.ensures) ∙ written)),
      (λ has.
          let own = c.identity_in.ensures.identity ∙ ap identity_of has.2 ∙ identity_back c.args.kind has.0 has.1 in
          c.eq.ensures ∙ (bytes_decides bytes c.as_slice.result.now).1 (has.2 ∙ ap (header_of c.args.kind) (sym own) ∙ sym written)),
    )
