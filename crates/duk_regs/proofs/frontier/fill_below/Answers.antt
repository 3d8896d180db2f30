use Rattle.std.proofs.Common.{◌≡◌, ◌<◌, ◌+◌, ◌*◌, ◌%◌, ◌^◌, ℕ, length, arith, ap, ◌∙◌}
use Rattle.std.proofs.lemmas.List.{length-set}
use Rattle.duk_tree.specs.Derivation.{step_of}
use Rattle.duk_tree.specs.Serial.{low_bytes}
use Rattle.duk_tree.specs.Path.{path_of}
use Rattle.duk_regs.proofs.CounterBounds.{BitLaws, place_below, shifted}
use Rattle.duk_regs.proofs.OneRegisterWritten.{filled_more, stays_at}
use Rattle.duk_regs.proofs.frontier.fill_below.Goals as goal

pub with_counter-requires : goal.with_counter-requires
with_counter-requires c =
    let laws : BitLaws = record { usable = c.bits.ensures.usable; place = c.bits.ensures.place; ones = c.bits.ensures.ones; lowest = c.bits.ensures.lowest } in
    let counter = c.args.counter in
    let place = c.loop-place.place in
    let within = place_below laws counter place c.requires c.loop-place-test.true in
    let few : length (path_of counter) < 10 = omega (arith, laws.ones counter (laws.usable counter c.requires).0, c.if-counter-lt-MOST_ONES.true) in
    let child = c.children.ensures.child counter place c.requires few within.0 in
    omega (arith, (shifted place within.1).0, (laws.usable (counter + 2 ^ place) child.0).0)

pub listed : goal.listed
listed c =
    let laws : BitLaws = record { usable = c.bits.ensures.usable; place = c.bits.ensures.place; ones = c.bits.ensures.ones; lowest = c.bits.ensures.lowest } in
    omega (arith, (place_below laws c.args.counter c.loop-place.place c.requires c.loop-place-test.true).1)

pub bounds-registers-place : goal.bounds-registers-place
bounds-registers-place c =
    let laws : BitLaws = record { usable = c.bits.ensures.usable; place = c.bits.ensures.place; ones = c.bits.ensures.ones; lowest = c.bits.ensures.lowest } in
    (place_below laws c.args.counter c.loop-place.place c.requires c.loop-place-test.true).1

pub loop-place-preserved : goal.loop-place-preserved
loop-place-preserved c =
    let laws : BitLaws = record { usable = c.bits.ensures.usable; place = c.bits.ensures.place; ones = c.bits.ensures.ones; lowest = c.bits.ensures.lowest } in
    let at = c.loop-place.place in
    let registers = c.loop-place.registers in
    let key = c.child.result in
    let within = (place_below laws c.args.counter at c.requires c.loop-place-test.true).1 in
    let counter : c.args.counter + 1 * 2 ^ at % 2 ^ 32 ≡ c.args.counter + 2 ^ at = omega (arith, (shifted at within).0) in
    let is_key =
    c.child.ensures
    ∙ ap (λ parent. step_of parent (low_bytes c.with_counter.result)) c.new-parent.ensures
    ∙ ap (λ n. step_of c.args.key.now (low_bytes n)) (c.with_counter.ensures.value ∙ ap (λ n. record { iksn = c.args.iksn; counter = n }) counter) in
    record {
      are_21 = length-set registers at key ∙ c.loop-place.invariant.are_21;
      filled = filled_more registers at key (λ (place : ℕ). step_of c.args.key.now (low_bytes (record { iksn = c.args.iksn; counter = c.args.counter + 2 ^ place }))) (omega (arith, c.loop-place.invariant.are_21)) is_key c.loop-place.invariant.filled;
      others_stay = λ place above. stays_at registers at place key (λ same. omega arith) ∙ c.loop-place.invariant.others_stay place (omega arith);
    }
