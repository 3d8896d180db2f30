use Rattle.std.proofs.Common.{◌≡◌, ◌++◌, ◌-◌, suc, length, replicate, set, ap, ◌∙◌, arith}
use Rattle.std.proofs.Math.Seq.{set-append_seam}
use Rattle.duk_mac.proofs.block.pad_block.Goals as goal

-- the first of the zero bytes becomes 80
pub returns : goal.returns
returns c =
    let part = c.args.part.now in
    let zeros : 8 - length part ≡ suc (7 - length part) = omega arith in
    ap (λ block. set block (length part) 0x80) (c.fill_block-block.ensures ∙ ap (λ n. part ++ replicate n 0) zeros)
    ∙ set-append_seam part 0 (replicate (7 - length part) 0) 0x80
