use Rattle.std.proofs.Common.{◌<◌, ℕ, List, sym, subst, ◌∙◌, arith}
use Rattle.duk_des.specs.Block.{IsBlock}
use Rattle.duk_tree.specs.Serial.{Serial, iksn_bytes}
use Rattle.duk_group.specs.Numbers.{number_at}
use Rattle.duk_group.proofs.SerialBlocks.{eight_of_ten}
use Rattle.duk_group.proofs.derivation.first_blocks.Goals as goal

pub returns : goal.returns
returns c = λ i h.
    let iksn = (number_at c.args.numbers.now i).iksn in
    let root : Serial = record { iksn = iksn; counter = 0 } in
    let lane : i < 128 = omega arith in
    let P : List ℕ → Type 0 = IsBlock in
    let is = c.loop-i.invariant.below i (omega arith) in
    c.gather_blocks.ensures i lane (subst P (sym is) (eight_of_ten 0 (iksn_bytes iksn) (omega arith) (c.serials.ensures.ten root) (c.serials.ensures.are_bytes root)))
    ∙ is
