use Rattle.std.proofs.Common.{◌∙◌, Err, length, ap}
use Rattle.std.proofs.lemmas.List.{take_rest}
use Rattle.std.proofs.lemmas.Result.{err_from_is_err_and}
use Rattle.duk_tdes.specs.KeyBytes.{bytes_of}
use Rattle.duk_block.proofs.OneSealedPart.{HasCount-same}
use Rattle.duk_block.proofs.TextPlaces.{after_header, count_at}
use Rattle.duk_block.proofs.UnwrapExact.{not_ok, refuses_first}
use Rattle.duk_block.proofs.unwrapping_optional.unwrap_optional.Goals as goal

pub returns-in_err-unwrap-clause-ok : goal.returns-in_err-unwrap-clause-ok
returns-in_err-unwrap-clause-ok g c =
    let p = err_from_is_err_and c.from_residual.result c.from_residual.ensures.1 in
    let fault = c.in_err-unwrap.field-0.0 in
    let first = (c.unwrap.ensures.refused fault).0 c.in_err-unwrap.was in (
      λ ok. absurd (not_ok c.from_residual.result fault (p.1 ∙ ap Err p.2) ok),
      λ wrapped. absurd (c.no_fault.ensures c.args.kbpk.now c.args.text.now wrapped.0 wrapped.1 fault c.tdes_key.ensures.key wrapped.2 first),
    )

pub returns-in_err-unwrap-clause-refused : goal.returns-in_err-unwrap-clause-refused
returns-in_err-unwrap-clause-refused g c =
    let p = err_from_is_err_and c.from_residual.result c.from_residual.ensures.1 in
    let fault = c.in_err-unwrap.field-0.0 in
    refuses_first c.args.text.now c.args.kbpk.now c.from_residual.result fault (p.1 ∙ ap Err p.2) ((c.unwrap.ensures.refused fault).0 c.in_err-unwrap.was)

pub returns-in_err-count-clause-ok : goal.returns-in_err-count-clause-ok
returns-in_err-count-clause-ok g c =
    let kbpk = c.args.kbpk.now in
    let header = c.in_ok-unwrap.field-0.0 in
    let key = bytes_of c.in_ok-unwrap.field-0.1 in
    absurd (c.no_fault.ensures kbpk c.args.text.now header key c.in_err-count.field-0.0 c.tdes_key.ensures.key c.in_ok-unwrap.ensures.found (c.in_err-count.ensures.refused kbpk))

pub returns-in_err-count-clause-refused : goal.returns-in_err-count-clause-refused
returns-in_err-count-clause-refused g c =
    let kbpk = c.args.kbpk.now in
    let header = c.in_ok-unwrap.field-0.0 in
    let key = bytes_of c.in_ok-unwrap.field-0.1 in
    absurd (c.no_fault.ensures kbpk c.args.text.now header key c.in_err-count.field-0.0 c.tdes_key.ensures.key c.in_ok-unwrap.ensures.found (c.in_err-count.ensures.refused kbpk))

pub returns-clause-content : goal.returns-clause-content
returns-clause-content g c = λ header key wraps.
    let text = c.args.text.now in
    let block = wraps.block in
    let kbpk = c.args.kbpk.now in
    c.first_content.ensures block.sealed_part (record {
      optional_blocks = block.optional_blocks;
      laid_out = take_rest text 16 ∙ after_header text kbpk header key block;
      count_is = HasCount-same text (length block.optional_blocks) c.in_ok-count.count (count_at text kbpk header key block) c.in_ok-count.ensures.found.count_is;
      each = block.each_optional;
    })
