use Rattle.std.proofs.Common.{◌≡◌, ◌<◌, ◌*◌, ◌+◌, ◌-◌, ◌/◌, ℕ, List, [], ap, arith, get_or, length, map, subst, sym, ◌∙◌}
use borrow.Author.Count.{below_more}
use borrow.Rule.Slice.PartMut.{put_mid}
use Rattle.std.proofs.lemmas.List.{take_all}
use Rattle.arrayvec.specs.ArrayVec.{ArrayVec}
use Rattle.duk_host.specs.Table.{table_decision}
use Rattle.duk_journal_host.specs.Candidate.{ArePaired, IsJudgedTo}
use Rattle.duk_journal_host.specs.declared.candidate.Judgement.{Judgement}
use Rattle.duk_calls.specs.Answer.{part_at}
use Rattle.duk_calls.specs.Hosts.{SaysJudgement}
use Rattle.duk_calls.specs.Requests.{front_frame}
use Rattle.duk_calls.specs.inner.Hosts.{frames_at}
use Rattle.duk_calls.proofs.HostPlaces.{as_many_frames, as_many_paired, frame_at, paired_at}
use Rattle.duk_calls.proofs.Parts.{length-written, part_before, part_within}
use Rattle.duk_calls.proofs.judging.judge_group.Goals as goal

pub bounds-deref-i : goal.bounds-deref-i
bounds-deref-i g c =
    let frames = c.args.frames.now in
    let count = length frames / 64 in
    let Judged : List ℕ → Judgement → Type 0 = IsJudgedTo c.args.hsm.now (table_decision c.args.issuer.now) in
    let items : ArrayVec ℕ → List ℕ = λ frame. frame.items in
    let judgements = c.judge_together-judgements.result.items in
    let paired : ArePaired Judged (frames_at frames count) judgements =
    subst (λ frames. ArePaired Judged frames judgements) (ap (map items) c.as_slice.ensures.value ∙ c.frames_in-all.ensures) c.judge_together-judgements.ensures in
    omega (arith, c.loop-i-test.true, as_many_paired Judged (frames_at frames count) judgements paired, as_many_frames frames count, ap length c.deref.ensures.0)

pub loop-i-preserved : goal.loop-i-preserved
loop-i-preserved g c =
    let frames = c.args.frames.now in
    let count = length frames / 64 in
    let i = c.loop-i.i in
    let judged = c.loop-i.judged in
    let part = c.copy_from_slice.new.self in
    let k = 64 * i + 64 - 64 * i in
    let put = put_mid (64 * i) k judged part in
    let one = c.index-deref-i.result in
    let Judged : List ℕ → Judgement → Type 0 = IsJudgedTo c.args.hsm.now (table_decision c.args.issuer.now) in
    let items : ArrayVec ℕ → List ℕ = λ frame. frame.items in
    let judgements = c.judge_together-judgements.result.items in
    let paired : ArePaired Judged (frames_at frames count) judgements =
    subst (λ frames. ArePaired Judged frames judgements) (ap (map items) c.as_slice.ensures.value ∙ c.frames_in-all.ensures) c.judge_together-judgements.ensures in
    let within : i < length (frames_at frames count) = omega (arith, c.loop-i-test.true, as_many_frames frames count) in
    let found : get_or judgements i one ≡ one = ap (λ (all : List Judgement). get_or all i one) (sym c.deref.ensures.0) ∙ sym c.index-deref-i.is in
    let is : Judged (front_frame (part_at 64 frames i)) one =
    subst (λ frame. Judged frame one) (frame_at frames count i c.loop-i-test.true)
    (subst (λ one. Judged (get_or (frames_at frames count) i []) one) found (paired_at Judged (frames_at frames count) judgements i [] one paired within)) in
    let long : length part ≡ 64 = omega (arith, c.copy_from_slice.ensures.len) in
    let Says : ℕ → List ℕ → Type 0 = λ p said. SaysJudgement c.args.hsm.now (table_decision c.args.issuer.now) (front_frame (part_at 64 frames p)) said in
    record {
      kept = length-written (64 * i) k judged part (omega (arith, long)) (omega arith) ∙ c.loop-i.invariant.kept;
      below =
          below_more (λ p. Says p (part_at 64 put p)) i
          (λ p h. subst (Says p) (sym (part_before 64 (64 * p) (64 * i) k judged part (omega (arith, h)) (omega arith))) (c.loop-i.invariant.below p h)) (
            one,
            is,
            part_within 64 (64 * i) 0 (64 * i) k judged part (omega arith) (omega (arith, long)) (omega arith)
                ∙ take_all 64 part (omega (arith, long))
                ∙ c.copy_from_slice.ensures.after
                ∙ c.place_of.ensures,
          );
    }

pub returns-clause-each : goal.returns-clause-each
returns-clause-each g c = λ i h. c.loop-i.invariant.below i (omega (arith, h, c.loop-i-test.false))
