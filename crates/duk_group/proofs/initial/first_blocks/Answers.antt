use Rattle.std.proofs.Common.{ℕ, List, get_or, sym, subst, ◌∙◌, arith}
use Rattle.duk_des.specs.Block.{IsBlock}
use Rattle.duk_tree.specs.Serial.{Serial, iksn_bytes}
use Rattle.duk_group.proofs.SerialBlocks.{eight_of_ten}
use Rattle.duk_group.proofs.initial.first_blocks.Goals as goal

pub returns : goal.returns
returns c = λ i h.
    let iksn = get_or c.args.iksns.now i 0 in
    let root : Serial = record { iksn = iksn; counter = 0 } in
    let P : List ℕ → Type 0 = IsBlock in
    let is = c.loop-i.invariant.below i (omega arith) in
    c.gather_blocks.ensures i h (subst P (sym is) (eight_of_ten 0 (iksn_bytes iksn) (omega arith) (c.serials.ensures.ten root) (c.serials.ensures.are_bytes root)))
    ∙ is
