use Rattle.std.proofs.Common.{◌≡◌, ◌-◌, ℕ, List, length, take, drop, sym, ap, subst, arith}
use Rattle.std.proofs.lemmas.List.{take_rest}
use Rattle.duk_block.specs.Optional.{Leaves}
use Rattle.duk_block.proofs.OneSealedPart.{HasCount-same}
use Rattle.duk_block.proofs.OptionalBlocks.{Leaves-same}
use Rattle.duk_block.proofs.unwrapping.sealed_part_of.Goals as goal
use Rattle.duk_block.proofs.unwrapping.sealed_part_of.Goals.{else-sealed_part-ge64-via-then-sealed_part-ge64+else-sealed_part-eq0, else-sealed_part-ge64-via-else-sealed_part-ge64}

pub returns-in_err-sealed_part : goal.returns-in_err-sealed_part
returns-in_err-sealed_part c = rw c.from_residual.ensures (λ sealed_part has.
    let text = c.args.text.now in
    let P : ℕ → Type 0 = λ n. Leaves n (take (length text - 16) (drop 16 text)) sealed_part in
    let Q : List ℕ → Type 0 = λ rest. Leaves has.count rest sealed_part in
    c.in_err-sealed_part.ensures sealed_part (subst P (HasCount-same text has.count c.args.count has.count_is c.requires.count) (subst Q (sym (take_rest text 16)) has.leaves)))

pub returns-else-sealed_part-ge64 : goal.returns-else-sealed_part-ge64
returns-else-sealed_part-ge64 c = λ sealed_part has.
    let text = c.args.text.now in
    let P : ℕ → Type 0 = λ n. Leaves n (take (length text - 16) (drop 16 text)) sealed_part in
    let Q : List ℕ → Type 0 = λ rest. Leaves has.count rest sealed_part in
    let leaves = subst P (HasCount-same text has.count c.args.count has.count_is c.requires.count) (subst Q (sym (take_rest text 16)) has.leaves) in
    let same : length sealed_part ≡ length c.in_ok-sealed_part.sealed_part.now =
    ap length (Leaves-same c.args.count (take (length text - 16) (drop 16 text)) sealed_part c.in_ok-sealed_part.sealed_part.now leaves c.in_ok-sealed_part.ensures) in
    elim c.else-sealed_part-ge64.branch [
      | else-sealed_part-ge64-via-then-sealed_part-ge64+else-sealed_part-eq0 w ↦ absurd (omega (arith, same, has.whole))
      | else-sealed_part-ge64-via-else-sealed_part-ge64 w ↦ absurd (omega (arith, same, has.least))
    ]
