use Rattle.std.proofs.Common.{ℕ, List, sym, subst, arith}
use Rattle.duk_des.specs.Block.{IsBlock}
use Rattle.duk_group.specs.Numbers.{number_at}
use Rattle.duk_tree.specs.Serial.{Serial, iksn_bytes}
use Rattle.duk_commands.proofs.GroupKeys.{first_eight}
use Rattle.duk_commands.proofs.batch.group.first_blocks.Goals as goal

pub returns : goal.returns
returns c = λ i h.
    let iksn = (number_at c.args.numbers.now i).iksn in
    let root : Serial = record { iksn = iksn; counter = 0 } in
    let P : List ℕ → Type 0 = IsBlock in
    let is = c.loop-i.invariant.below i (omega arith) in
    (is, subst P (sym is) (first_eight (iksn_bytes iksn) (c.serials.ensures.ten root) (c.serials.ensures.are_bytes root)))
