use Rattle.std.proofs.Common.{◌≡◌, ◌<◌, arith, length, rules, slice_set, subst, sym}
use Rattle.duk_group.specs.declared.transposed.TheConstants.{WIDTH}
use Rattle.duk_journal_host.specs.inner.Judged.{IsNumberOf}
use Rattle.duk_journal_host.proofs.NumbersOpened.{one_asked}
use Rattle.duk_journal_host.proofs.opening.asked_by_all.Goals as goal

pub loop-place-preserved : goal.loop-place-preserved
loop-place-preserved c =
    let place = c.loop-place.place in
    let one = c.asked_by.result in
    let size : length (slice_set c.loop-place.asked place one) ≡ WIDTH = search rules in
    let room : place < length c.loop-place.asked = omega (arith, c.loop-place.invariant.size, c.loop-place-test.true, c.requires.few) in
    let number = subst (λ bytes. IsNumberOf bytes one.ksn) c.as_slice.ensures.value c.asked_by.ensures.number in
    record {
      size = size;
      numbers = one_asked (λ frame. frame.items) (λ one. one.ksn) c.args.frames.now c.loop-place.asked place c.index-frames-place.result one
          c.loop-place-test.true room (sym c.index-frames-place.is) c.loop-place.invariant.numbers number;
    }
