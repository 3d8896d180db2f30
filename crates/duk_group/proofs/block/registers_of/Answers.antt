use Rattle.std.proofs.Common.{ℕ, List, sym, subst, ◌∙◌, arith}
use Rattle.duk_des.specs.Block.{IsBlock}
use Rattle.duk_tree.specs.Serial.{serial_bytes}
use Rattle.duk_group.specs.Numbers.{number_at}
use Rattle.duk_group.proofs.SerialBlocks.{eight_of_ten}
use Rattle.duk_group.proofs.block.registers_of.Goals as goal

pub returns : goal.returns
returns c = λ i h.
    let number = number_at c.args.numbers.now i in
    let P : List ℕ → Type 0 = IsBlock in
    let is = c.loop-i.invariant.below i (omega arith) in
    let is_block = eight_of_ten 2 (serial_bytes number) (omega arith) (c.serials.ensures.ten number) (c.serials.ensures.are_bytes number) in
    c.gather_blocks.ensures i h (subst P (sym is) is_block) ∙ is
