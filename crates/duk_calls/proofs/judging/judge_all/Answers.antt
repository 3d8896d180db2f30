use Rattle.std.proofs.Common.{◌≡◌, ◌*◌, ◌+◌, ◌-◌, ◌/◌, ℕ, List, length, take, drop, inl, inr, sym, subst, ap, ◌∙◌, length-drop, arith}
use Rattle.std.proofs.lemmas.Bool.{cases_lt}
use Rattle.std.proofs.lemmas.List.{length-take-le}
use Rattle.std.proofs.lemmas.Slice.{drop-put_mid}
use borrow.Rule.Slice.PartMut.{put_mid}
use Rattle.duk_host.specs.Table.{table_decision}
use Rattle.duk_calls.specs.Answer.{part_at}
use Rattle.duk_calls.specs.Hosts.{SaysJudgement}
use Rattle.duk_calls.specs.Requests.{front_frame}
use Rattle.duk_calls.proofs.Parts.{part_before, part_of_middle, part_within, drop_further, length-written}
use Rattle.duk_calls.proofs.judging.judge_all.Goals as goal

pub loop-done-preserved : goal.loop-done-preserved
loop-done-preserved g c =
    let frames = c.args.frames.now in
    let judged = c.loop-done.judged in
    let done = c.loop-done.done in
    let count = c.min.result in
    let part = c.judge_group.new.judged in
    let k = 64 * (done + count) - 64 * done in
    let size : length part ≡ length (take k (drop (64 * done) judged)) = c.judge_group.ensures.size in
    let read : length (take k (drop (64 * done) frames)) ≡ k = length-take-le k (drop (64 * done) frames) (omega (arith, length-drop (64 * done) frames)) in
    let lent : length (take k (drop (64 * done) judged)) ≡ k = length-take-le k (drop (64 * done) judged) (omega (arith, length-drop (64 * done) judged)) in
    let long : length part ≡ k = size ∙ lent in
    let Says : List ℕ → List ℕ → Type 0 = λ frame said. SaysJudgement c.args.hsm.now (table_decision c.args.issuer.now) (front_frame frame) said in
    record {
      within = omega arith;
      kept = length-written (64 * done) k judged part long (omega arith) ∙ c.loop-done.invariant.kept;
      below = λ p h.
          elim (cases_lt p done) [
            | inl l ↦ subst (Says (part_at 64 frames p)) (sym (part_before 64 (64 * p) (64 * done) k judged part (omega arith) (omega arith))) (c.loop-done.invariant.below p l)
            | inr l ↦
                let found = c.judge_group.ensures.each (p - done) (omega arith) in
                let bytes = part_of_middle 64 (64 * done) (64 * (p - done)) (64 * p) k frames (omega arith) (omega arith) in
                subst (Says (part_at 64 frames p)) (sym (part_within 64 (64 * done) (64 * (p - done)) (64 * p) k judged part (omega arith) (omega arith) (omega arith)))
                (subst (λ frame. Says frame (part_at 64 part (p - done))) bytes found)
          ];
      behind =
          drop-put_mid (64 * done) k judged part (64 * (done + count)) (omega arith) (omega arith) long
          ∙ drop_further (64 * done) (64 * count) (64 * (done + count)) judged c.args.judged.now (omega arith) c.loop-done.invariant.behind;
    }

pub returns-clause-each : goal.returns-clause-each
returns-clause-each g c = λ i h. c.loop-done.invariant.below i (omega (arith, h, c.loop-done-test.false))
