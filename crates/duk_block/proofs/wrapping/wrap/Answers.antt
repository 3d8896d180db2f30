use Rattle.std.proofs.Common.{[]}
use Rattle.std.proofs.lemmas.Result.{IfOk-weaker}
use Rattle.duk_block.specs.KeyBlock.{IsWrittenKeyBlock, IsWrittenKeyBlockWith}
use Rattle.duk_block.proofs.WholeBlocks.{written_alone}
use Rattle.duk_block.proofs.wrapping.wrap.Goals as goal

pub returns-clause-written : goal.returns-clause-written
returns-clause-written g c =
    let kbpk = c.args.kbpk.now in
    let header = c.args.header.now in
    let key = c.args.key.now in
    let pad = c.args.pad.now in
    IfOk-weaker c.wrap_with.result (λ text. IsWrittenKeyBlockWith text.items kbpk header [] key pad) (λ text. IsWrittenKeyBlock text.items kbpk header key pad)
    (λ text written. written_alone text.items kbpk header key pad written) c.wrap_with.ensures.written
