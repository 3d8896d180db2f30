use Rattle.std.proofs.Common.{subst, IfOk, replicate}
use Rattle.duk_block.specs.KeyBlock.{IsWithinLimits, IsWrittenKeyBlock, Wraps}
use Rattle.duk_block.specs.KeyUse.{header_for}
use Rattle.duk_config.proofs.hsm.wrap_key.Goals as goal

pub returns-clause-wraps : goal.returns-clause-wraps
returns-clause-wraps g c =
    let text = c.unwrap.result.items in
    let lmk = c.tdes_key.ensures.key in
    let limits : IsWithinLimits text = subst (λ wrapped. IfOk wrapped (λ block. IsWithinLimits block.items)) c.unwrap.ensures c.wrap.ensures.limits in
    let written : IsWrittenKeyBlock text c.args.lmk.now c.header.result c.args.key.now (replicate 6 0) =
    subst (λ wrapped. IfOk wrapped (λ block. IsWrittenKeyBlock block.items c.args.lmk.now c.header.result c.args.key.now (replicate 6 0))) c.unwrap.ensures c.wrap.ensures.written in
    let wraps : Wraps c.args.lmk.now text (header_for c.args.key_use) c.args.key.now =
    subst (λ h. Wraps c.args.lmk.now text h c.args.key.now) c.header.ensures.header (record { limits = limits; block = written.block }) in
    record {
      wraps = wraps;
      alone = λ other_header other_key other. c.one_reading.ensures _ _ _ _ _ _ lmk wraps.block other.block;
      has_no_fault = λ why. c.no_fault.ensures _ _ _ _ why lmk wraps;
    }
