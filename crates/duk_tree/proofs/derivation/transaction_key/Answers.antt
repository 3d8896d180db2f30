use Rattle.std.proofs.Common.{◌≡◌, ◌<◌, ◌^◌, ◌/◌, ◌*◌, ◌-◌, ◌%◌, ap, ◌∙◌, sym, arith}
use Rattle.duk_tree.specs.Derivation.{step_of, node_key}
use Rattle.duk_tree.specs.Serial.{low_bytes}
use Rattle.duk_tree.proofs.PathsOfCounters.{path_from}
use Rattle.duk_tree.proofs.DerivationByPath.{node_key-taken, node_key-skipped, transaction_key_of-path_from, shifted_back}
use Rattle.duk_tree.proofs.derivation.transaction_key.Goals as goal

pub loop-place-preserved-then-reached-eq1 : goal.loop-place-preserved-then-reached-eq1
loop-place-preserved-then-reached-eq1 c =
    let initial = c.args.initial.now in
    let iksn = c.args.ksn.iksn in
    let counter = c.args.ksn.counter in
    let place = c.loop-place.place in
    let fits : counter < 2 ^ 21 = c.counter.ensures.serial.counter_fits in
    let is_counter = c.counter.ensures.value in
    let odd : counter / 2 ^ (place - 1) % 2 ≡ 1 = ap (λ n. n / 2 ^ (place - 1) % 2) (sym is_counter) ∙ c.if-reached-eq1.true in
    let reached : c.counter.result / 2 ^ (place - 1) * 2 ^ (place - 1) % 2 ^ 32 ≡ counter / 2 ^ (place - 1) * 2 ^ (place - 1) =
    ap (λ n. n / 2 ^ (place - 1) * 2 ^ (place - 1) % 2 ^ 32) is_counter ∙ shifted_back counter (place - 1) fits in
    let taken = node_key-taken initial iksn counter place c.loop-place.key c.loop-place-test.true c.loop-place.auto.place fits odd c.loop-place.invariant in
    let number : c.with_counter.result ≡ record { iksn = iksn; counter = counter / 2 ^ (place - 1) * 2 ^ (place - 1) } =
    c.with_counter.ensures.value ∙ ap (λ n. record { iksn = iksn; counter = n }) reached in
    c.child-key.ensures ∙ ap (λ key. step_of key (low_bytes c.with_counter.result)) c.new.ensures ∙ ap (λ serial. step_of c.loop-place.key (low_bytes serial)) number ∙ taken

pub loop-place-preserved : goal.loop-place-preserved
loop-place-preserved c =
    let counter = c.args.ksn.counter in
    let place = c.loop-place.place in
    let is_counter = c.counter.ensures.value in
    let even : counter / 2 ^ (place - 1) % 2 ≡ 0 =
    ap (λ n. n / 2 ^ (place - 1) % 2) (sym is_counter) ∙ omega (arith, c.if-reached-eq1.false) in
    node_key-skipped c.args.initial.now c.args.ksn.iksn counter place c.loop-place.key c.loop-place-test.true c.loop-place.auto.place even c.loop-place.invariant

pub returns : goal.returns
returns c =
    let end : c.loop-place.place ≡ 0 = omega arith in
    c.loop-place.invariant
    ∙ ap (λ n. node_key c.args.initial.now c.args.ksn.iksn (path_from n (21 - n) c.args.ksn.counter)) end
    ∙ transaction_key_of-path_from c.args.initial.now c.args.ksn.iksn c.args.ksn.counter
