use Rattle.std.proofs.Common.{◌≡◌, ◌-◌, ◌∙◌, ℕ, suc, length, take, ap, sym, subst, arith}
use Rattle.duk_block.specs.Optional.{HasOtherId}
use Rattle.duk_block.proofs.OptionalBlocks.{least_length}
use Rattle.duk_block.proofs.OptionalContent.{Passed, at_block, block_in_front, found_content, other_content, passed_all, passed_at}
use Rattle.duk_block.proofs.optional.first_content.Goals as goal

pub returns-in_err-next : goal.returns-in_err-next
returns-in_err-next c = rw c.from_residual.ensures (λ rest leaves.
    let blocks = leaves.optional_blocks in
    let one_more : c.loop-left.left ≡ suc (c.loop-left.left - 1) = omega arith in
    let P : ℕ → Type 0 = Passed blocks c.args.id c.loop-left.rest.now rest in
    let at = at_block blocks c.args.id c.loop-left.rest.now rest (c.loop-left.left - 1) (subst P one_more (c.loop-left.invariant rest leaves)) in
    absurd (c.in_err-next.ensures _ at.one))

pub content_with-content-requires : goal.content_with-content-requires
content_with-content-requires c =
    let one = c.in_ok-next.ensures in
    omega (arith, ap length (block_in_front c.loop-left.rest.now c.in_ok-next.next.now one), least_length one.block one.is_block)

pub returns-then-is_some : goal.returns-then-is_some
returns-then-is_some c = λ rest leaves.
    let blocks = leaves.optional_blocks in
    let text = c.loop-left.rest.now in
    let next = c.in_ok-next.next.now in
    let left : ℕ = c.loop-left.left - 1 in
    let one_more : c.loop-left.left ≡ suc left = omega arith in
    let P : ℕ → Type 0 = Passed blocks c.args.id text rest in
    let at = at_block blocks c.args.id text rest left (subst P one_more (c.loop-left.invariant rest leaves)) in
    let one = c.in_ok-next.ensures in
    found_content blocks c.args.id text rest left at next one (take (length text - length next) text) c.content_with-content.result (block_in_front text next one)
    (sym c.is_some.ensures ∙ c.if-is_some.true) c.content_with-content.ensures

pub loop-left-preserved : goal.loop-left-preserved
loop-left-preserved c = λ rest leaves.
    let blocks = leaves.optional_blocks in
    let text = c.loop-left.rest.now in
    let next = c.in_ok-next.next.now in
    let left : ℕ = c.loop-left.left - 1 in
    let one_more : c.loop-left.left ≡ suc left = omega arith in
    let P : ℕ → Type 0 = Passed blocks c.args.id text rest in
    let at = at_block blocks c.args.id text rest left (subst P one_more (c.loop-left.invariant rest leaves)) in
    let one = c.in_ok-next.ensures in
    let other : HasOtherId c.args.id one.block = other_content c.args.id (take (length text - length next) text) one.block c.content_with-content.result (block_in_front text next one)
    (sym c.is_some.ensures ∙ c.if-is_some.false) c.content_with-content.ensures in
    passed_at blocks c.args.id text rest left at next one other

pub returns : goal.returns
returns c = λ rest leaves.
    let P : ℕ → Type 0 = Passed leaves.optional_blocks c.args.id c.loop-left.rest.now rest in
    let none : c.loop-left.left ≡ 0 = omega arith in
    passed_all leaves.optional_blocks c.args.id c.loop-left.rest.now rest (subst P none (c.loop-left.invariant rest leaves))
