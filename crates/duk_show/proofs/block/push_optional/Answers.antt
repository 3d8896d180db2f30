use Rattle.std.proofs.Common.{◌≡◌, ◌+◌, ◌-◌, ◌∷◌, ◌++◌, [], ℕ, suc, List, length, take, drop, ap, subst, ◌∙◌, length-append, arith}
use Rattle.std.proofs.lemmas.List.{drop-drop, length-take-le, take_rest}
use Rattle.duk_block.specs.Optional.{Leaves}
use Rattle.duk_show.specs.Block.{optional_line}
use Rattle.duk_show.specs.inner.Block.{BeginsWithBlock}
use Rattle.duk_show.proofs.OptionalBlocks.{leaves_none, leaves_rest, no_block, one_of}
use Rattle.duk_show.proofs.OptionalWalk.{passed_more}
use Rattle.duk_show.proofs.block.push_optional.Goals as goal

pub returns-in_default-clause-stops : goal.returns-in_default-clause-stops
returns-in_default-clause-stops c =
    let now = c.loop-left.invariant in
    let text = c.args.text.now in
    let place = c.loop-left.place in
    record {
      blocks = now.blocks;
      each = now.passed.each;
      laid_out = now.passed.laid_out;
      place_is = now.passed.place_is;
      fewer = omega (arith, now.count, c.loop-left-test.true);
      no_more = no_block (drop place text) (subst (λ (rest : List ℕ). (size : ℕ) → ¬ BeginsWithBlock rest size) (take_rest text place) c.in_default.ensures);
    }

pub returns-in_default-clause-none : goal.returns-in_default-clause-none
returns-in_default-clause-none c = λ rest all.
    let text = c.args.text.now in
    let place = c.loop-left.place in
    let one_more : c.loop-left.left ≡ suc (c.loop-left.left - 1) = omega (arith, c.loop-left-test.true) in
    let left = subst (λ (n : ℕ). Leaves n (drop place text) rest) one_more (c.loop-left.invariant.back rest all) in
    leaves_none (c.loop-left.left - 1) (drop place text) rest (subst (λ (rest : List ℕ). (size : ℕ) → ¬ BeginsWithBlock rest size) (take_rest text place) c.in_default.ensures) left

pub loop-left-preserved : goal.loop-left-preserved
loop-left-preserved c =
    let now = c.loop-left.invariant in
    let text = c.args.text.now in
    let place = c.loop-left.place in
    let size = c.in-Some.length in
    let begins : BeginsWithBlock (drop place text) size = subst (λ (rest : List ℕ). BeginsWithBlock rest size) (take_rest text place) c.in-Some.ensures in
    let same : (place + size) - place ≡ size = omega arith in
    let width : length (take ((place + size) - place) (drop place text)) ≡ size =
    ap (λ (n : ℕ). length (take n (drop place text))) same ∙ length-take-le size (drop place text) begins.within in
    let line = c.push_shown_line.ensures.line ∙ ap (λ (n : ℕ). c.loop-left.lines.items ++ optional_line (take n (drop place text))) same in
    let more = passed_more text now.blocks place size c.args.lines.now.items c.loop-left.lines.items c.push_shown_line.new.lines.items now.passed begins line in
    let one_more : c.loop-left.left ≡ suc (c.loop-left.left - 1) = omega (arith, c.loop-left-test.true) in
    record {
      blocks = now.blocks ++ take size (drop place text) ∷ [];
      passed = more;
      count = omega (arith, now.count, length-append now.blocks (take size (drop place text) ∷ []), c.loop-left-test.true);
      room = omega (arith, now.room, c.push_shown_line.ensures.len, width, c.loop-left-test.true);
      back = λ rest all.
          subst (λ (after : List ℕ). Leaves (c.loop-left.left - 1) after rest) (drop-drop size place text)
          (leaves_rest (c.loop-left.left - 1) (drop place text) (drop size (drop place text)) rest (one_of (drop place text) size begins)
          (subst (λ (n : ℕ). Leaves n (drop place text) rest) one_more (now.back rest all)));
    }
