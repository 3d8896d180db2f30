use Rattle.std.proofs.Common.{◌≡◌, ◌<◌, ◌^◌, ◌/◌, ◌*◌, ◌-◌, ◌%◌, ◌∷◌, refl, ap, ◌∙◌, sym, arith}
use Rattle.duk_tree.specs.Path.{value_of}
use Rattle.duk_tree.specs.Serial.{low_bytes}
use Rattle.duk_group.specs.inner.Walk.{ones_from}
use Rattle.duk_group.proofs.PathsDown.{ones_from-taken, ones_from-skipped, value_of-ones_from, shifted_back}
use Rattle.duk_group.proofs.walk.next_node.Goals as goal

pub returns-then-reached-eq1 : goal.returns-then-reached-eq1
returns-then-reached-eq1 c =
    let iksn = c.args.number.iksn in
    let counter = c.args.number.counter in
    let next = c.loop-next.next in
    let is_counter = c.counter-counter.ensures.value in
    let fits : counter < 2 ^ 21 = c.counter-counter.ensures.serial.counter_fits in
    let odd : counter / 2 ^ (next - 1) % 2 ≡ 1 = ap (λ n. n / 2 ^ (next - 1) % 2) (sym is_counter) ∙ c.if-reached-eq1.true in
    let path : ones_from (next - 1) counter ≡ (next - 1) ∷ ones_from c.args.place counter =
    ones_from-taken counter next c.loop-next-test.true (omega arith) odd ∙ ap (λ rest. (next - 1) ∷ rest) c.loop-next.invariant.same in
    let reached : c.counter-counter.result / 2 ^ (next - 1) * 2 ^ (next - 1) % 2 ^ 32 ≡ value_of ((next - 1) ∷ ones_from c.args.place counter) =
    ap (λ n. n / 2 ^ (next - 1) * 2 ^ (next - 1) % 2 ^ 32) is_counter
    ∙ shifted_back counter (next - 1) fits
    ∙ sym (value_of-ones_from counter (next - 1) (omega arith) fits)
    ∙ ap value_of path in
    let number : c.with_counter-child.result ≡ record { iksn = iksn; counter = value_of ((next - 1) ∷ ones_from c.args.place counter) } =
    c.with_counter-child.ensures.value ∙ ap (λ n. record { iksn = iksn; counter = n }) reached in
    record {
      goes = λ is. record { falls = omega arith; path = path; register = c.low_bytes.ensures ∙ ap low_bytes number };
      stays = λ is. cc;
    }

pub loop-next-preserved : goal.loop-next-preserved
loop-next-preserved c =
    let counter = c.args.number.counter in
    let next = c.loop-next.next in
    let even : counter / 2 ^ (next - 1) % 2 ≡ 0 = ap (λ n. n / 2 ^ (next - 1) % 2) (sym c.counter-counter.ensures.value) ∙ omega (arith, c.if-reached-eq1.false) in
    record {
      within = omega arith;
      same = ones_from-skipped counter next c.loop-next-test.true (omega arith) even ∙ c.loop-next.invariant.same;
    }

pub returns : goal.returns
returns c =
    let end : 0 ≡ c.loop-next.next = omega arith in
    record {
      goes = λ is. cc;
      stays = λ is. record { ended = refl; path = ap (λ n. ones_from n c.args.number.counter) end ∙ c.loop-next.invariant.same };
    }
