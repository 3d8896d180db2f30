use Rattle.std.proofs.Common.{◌≡◌, ◌∙◌, ◌<◌, ◌+◌, ◌++◌, ◌∷◌, [], ap, arith, length, map, subst, sym, take}
use Rattle.std.proofs.lemmas.List.{length-map, length_push, map-append, take_more}
use Rattle.duk_journal_host.specs.Candidate.{ArePaired, IsJudgedTo}
use Rattle.duk_journal_host.proofs.Judging.{item_at}
use Rattle.duk_journal_host.proofs.NumbersOpened.{opens_at}
use Rattle.duk_journal_host.proofs.Paired.{paired_more}
use Rattle.duk_journal_host.proofs.candidate.judge_together.Goals as goal

pub judge_one-requires : goal.judge_one-requires
judge_one-requires g c =
    let place = c.loop-place.place in
    let frames = c.args.frames.now in
    let within : place < length (map (λ frame. frame.items) frames) = omega (arith, c.loop-place-test.true, length-map frames (λ frame. frame.items)) in
    let is = item_at (λ frame. frame.items) frames place c.index-frames-place.result [] c.loop-place-test.true (sym c.index-frames-place.is) in
    record {
      opened = (
        c.args.hsm.now,
        c.requires.zone,
        opens_at c.args.hsm.now (map (λ frame. frame.items) frames) c.open_frames-opened.result place c.as_slice-frame.result.now c.transaction.result c.open_frames-opened.ensures.opened
            within (is ∙ sym c.as_slice-frame.ensures.value) c.transaction.ensures.opened c.transaction.ensures.refused,
      );
    }

pub loop-place-preserved : goal.loop-place-preserved
loop-place-preserved g c =
    let place = c.loop-place.place in
    let keys = c.args.hsm.now in
    let decides = g.I.Issuer.decides c.args.issuer.now in
    let frames = c.args.frames.now in
    let frame = c.index-frames-place.result in
    let judgements = c.loop-place.judgements.items in
    let one = c.judge_one.result in
    let within : place < length (map (λ frame. frame.items) frames) = omega (arith, c.loop-place-test.true, length-map frames (λ frame. frame.items)) in
    let is = item_at (λ frame. frame.items) frames place frame [] c.loop-place-test.true (sym c.index-frames-place.is) in
    let opens = opens_at keys (map (λ frame. frame.items) frames) c.open_frames-opened.result place c.as_slice-frame.result.now c.transaction.result c.open_frames-opened.ensures.opened
    within (is ∙ sym c.as_slice-frame.ensures.value) c.transaction.ensures.opened c.transaction.ensures.refused in
    let here = subst (λ bytes. IsJudgedTo keys decides bytes one) c.as_slice-frame.ensures.value (c.judge_one.ensures keys opens) in
    let more : map (λ frame. frame.items) (take place frames) ++ frame.items ∷ [] ≡ map (λ frame. frame.items) (take (place + 1) frames) = sym (
    ap (λ frames. map (λ frame. frame.items) frames) (take_more frames place frame c.loop-place-test.true ∙ ap (λ frame. take place frames ++ frame ∷ []) (sym c.index-frames-place.is))
    ∙ map-append (λ frame. frame.items) (take place frames) (frame ∷ [])) in
    record {
      counted = omega (arith, ap length c.push.ensures.items, length_push judgements one, c.loop-place.invariant.counted);
      judged = subst (λ judgements. ArePaired (IsJudgedTo keys decides) (map (λ frame. frame.items) (take (place + 1) frames)) judgements) (sym c.push.ensures.items)
          (subst (λ frames. ArePaired (IsJudgedTo keys decides) frames (judgements ++ one ∷ [])) more
          (paired_more (IsJudgedTo keys decides) (map (λ frame. frame.items) (take place frames)) judgements frame.items one c.loop-place.invariant.judged here));
    }
