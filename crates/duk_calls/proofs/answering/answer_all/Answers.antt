use Rattle.std.proofs.Common.{◌≡◌, ◌*◌, ◌+◌, ◌-◌, ℕ, List, length, take, drop, inl, inr, sym, subst, ◌∙◌, length-drop, arith}
use Rattle.std.proofs.lemmas.Bool.{cases_lt}
use Rattle.std.proofs.lemmas.List.{length-take-le}
use Rattle.std.proofs.lemmas.Slice.{drop-put_mid}
use Rattle.duk_calls.specs.Answer.{part_at}
use Rattle.duk_calls.specs.Hosts.{SaysAnswer}
use Rattle.duk_calls.proofs.Parts.{part_before, part_of_middle, part_within, drop_further, length-written}
use Rattle.duk_calls.proofs.answering.answer_all.Goals as goal

pub loop-done-preserved : goal.loop-done-preserved
loop-done-preserved g c =
    let frames = c.args.settled.now in
    let judged = c.loop-done.answers in
    let done = c.loop-done.done in
    let count = c.min.result in
    let part = c.answer_group.new.answers in
    let k = 64 * (done + count) - 64 * done in
    let size : length part ≡ length (take k (drop (64 * done) judged)) = c.answer_group.ensures.size in
    let read : length (take k (drop (64 * done) frames)) ≡ k = length-take-le k (drop (64 * done) frames) (omega (arith, length-drop (64 * done) frames)) in
    let lent : length (take k (drop (64 * done) judged)) ≡ k = length-take-le k (drop (64 * done) judged) (omega (arith, length-drop (64 * done) judged)) in
    let long : length part ≡ k = size ∙ lent in
    let Says : List ℕ → List ℕ → Type 0 = λ said answer. SaysAnswer c.args.hsm.now said answer in
    record {
      within = omega arith;
      kept = length-written (64 * done) k judged part long (omega arith) ∙ c.loop-done.invariant.kept;
      below = λ p h.
          elim (cases_lt p done) [
            | inl l ↦ subst (Says (part_at 64 frames p)) (sym (part_before 64 (64 * p) (64 * done) k judged part (omega arith) (omega arith))) (c.loop-done.invariant.below p l)
            | inr l ↦
                let found = c.answer_group.ensures.each (p - done) (omega arith) in
                let bytes = part_of_middle 64 (64 * done) (64 * (p - done)) (64 * p) k frames (omega arith) (omega arith) in
                subst (Says (part_at 64 frames p)) (sym (part_within 64 (64 * done) (64 * (p - done)) (64 * p) k judged part (omega arith) (omega arith) (omega arith)))
                (subst (λ frame. Says frame (part_at 64 part (p - done))) bytes found)
          ];
      behind =
          drop-put_mid (64 * done) k judged part (64 * (done + count)) (omega arith) (omega arith) long
          ∙ drop_further (64 * done) (64 * count) (64 * (done + count)) judged c.args.answers.now (omega arith) c.loop-done.invariant.behind;
    }

pub returns-clause-each : goal.returns-clause-each
returns-clause-each g c = λ i h. c.loop-done.invariant.below i (omega (arith, h, c.loop-done-test.false))
