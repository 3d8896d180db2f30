use Rattle.std.proofs.Common.{◌≡◌, ◌+◌, ◌-◌, ◌*◌, ◌%◌, ◌≤◌, ◌^◌, ◌∷◌, ◌++◌, ℕ, suc, ap, ◌∙◌, sym, subst, arith}
use Rattle.duk_commands.specs.Keys.{step_line}
use Rattle.duk_commands.proofs.StepsOnTheWay.{IsReached, lines_more, no_more, one_more, shifted}
use Rattle.duk_commands.proofs.steps.push_steps.Goals as goal

pub loop-place-preserved-then-left-bit : goal.loop-place-preserved-then-left-bit
loop-place-preserved-then-left-bit c =
    let p : ℕ = c.loop-place.place - 1 in
    let now = c.loop-place.invariant in
    let before : c.loop-place.place ≡ suc p = omega arith in
    let bit : 1 * 2 ^ p % 4294967296 ≡ 2 ^ p = shifted p (omega arith) in
    let one : 2 ^ p ≤ c.loop-place.left = subst (λ b. b ≤ c.loop-place.left) bit c.if-left-bit.true in
    let way : IsReached (suc p) now.path c.loop-place.reached c.loop-place.left =
    subst (λ n. IsReached n now.path c.loop-place.reached c.loop-place.left) before now.on_the_way in
    let next = one_more p now.path c.loop-place.reached c.loop-place.left one way in
    let counter = next.value_is ∙ ap (λ b. c.loop-place.reached + b) (sym bit) ∙ sym (ap (λ number. number.counter) c.with_counter.ensures.value) in
    let line = c.push_step.ensures.line (p ∷ now.path) next.is_path counter
    ∙ ap (λ number. c.loop-place.lines.items ++ step_line c.args.initial.now number.iksn (p ∷ now.path)) c.with_counter.ensures.value in
    record {
      path = p ∷ now.path;
      on_the_way = subst (λ b. IsReached p (p ∷ now.path) (c.loop-place.reached + b) (c.loop-place.left - b)) (sym bit) next;
      whole = omega (arith, now.whole, c.if-left-bit.true);
      lines = lines_more c.args.initial.now c.args.ksn.iksn p now.path c.args.lines.now.items c.loop-place.lines.items _ now.lines line;
      length = omega (arith, now.length, c.push_step.ensures.len);
    }

pub loop-place-preserved : goal.loop-place-preserved
loop-place-preserved c =
    let p : ℕ = c.loop-place.place - 1 in
    let now = c.loop-place.invariant in
    let before : c.loop-place.place ≡ suc p = omega arith in
    let bit : 1 * 2 ^ p % 4294967296 ≡ 2 ^ p = shifted p (omega arith) in
    let way : IsReached (suc p) now.path c.loop-place.reached c.loop-place.left =
    subst (λ n. IsReached n now.path c.loop-place.reached c.loop-place.left) before now.on_the_way in
    record {
      path = now.path;
      on_the_way = no_more p now.path c.loop-place.reached c.loop-place.left (omega (arith, bit, c.if-left-bit.false)) way;
      whole = now.whole;
      lines = now.lines;
      length = omega (arith, now.length);
    }
