use Rattle.std.proofs.Common.{◌≡◌, ◌-◌, ℕ, suc, sym, subst, arith}
use Rattle.duk_block.specs.Optional.{Leaves}
use Rattle.duk_block.proofs.OptionalBlocks.{Leaves-cons, Leaves-rest, Leaves-uncons}
use Rattle.duk_block.proofs.optional.after_optional.Goals as goal

pub returns-in_err-rest : goal.returns-in_err-rest
returns-in_err-rest c =
    let one_more : c.loop-left.left ≡ suc (c.loop-left.left - 1) = omega arith in
    rw c.from_residual.ensures (λ rest all.
    let P : ℕ → Type 0 = λ n. Leaves n c.loop-left.rest.now rest in
    let parts = Leaves-uncons (c.loop-left.left - 1) c.loop-left.rest.now rest (subst P one_more (c.loop-left.invariant.back rest all)) in
    c.in_err-rest.ensures parts.0 parts.1)

pub loop-left-preserved : goal.loop-left-preserved
loop-left-preserved c =
    let one_more : c.loop-left.left ≡ suc (c.loop-left.left - 1) = omega arith in
    let now = c.loop-left.rest.now in
    let next = c.in_ok-rest.rest.now in
    record {
      onward = λ rest all.
          let P : ℕ → Type 0 = λ n. Leaves n now rest in
          c.loop-left.invariant.onward rest (subst P (sym one_more) (Leaves-cons (c.loop-left.left - 1) now next rest c.in_ok-rest.ensures all));
      back = λ rest all.
          let P : ℕ → Type 0 = λ n. Leaves n now rest in
          Leaves-rest (c.loop-left.left - 1) now next rest c.in_ok-rest.ensures (subst P one_more (c.loop-left.invariant.back rest all));
    }
