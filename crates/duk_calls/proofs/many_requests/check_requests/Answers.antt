use Rattle.std.proofs.Common.{◌≡◌, ◌*◌, ◌+◌, ◌-◌, ℕ, length, take, drop, get_or, inl, inr, sym, subst, ◌∙◌, length-drop, arith}
use Rattle.std.proofs.lemmas.Bool.{cases_lt}
use Rattle.std.proofs.lemmas.List.{length-take-le}
use Rattle.std.proofs.lemmas.Slice.{drop-put_mid}
use borrow.Rule.Slice.PartMut.{put_mid}
use Rattle.duk_calls.specs.Answer.{Reports, part_at}
use Rattle.duk_calls.specs.Requests.{IsVerdict, front_frame}
use Rattle.duk_calls.proofs.Parts.{part_of_middle, place_before, place_within, drop_further, length-written}
use Rattle.duk_calls.proofs.many_requests.check_requests.Goals as goal

pub loop-done-preserved : goal.loop-done-preserved
loop-done-preserved c =
    let bdk = c.args.bdk.now in
    let frames = c.args.frames.now in
    let results = c.loop-done.results in
    let done = c.loop-done.done in
    let count = c.min.result in
    let part = c.check_group.new.results in
    let k = done + count - done in
    let w = 64 * (done + count) - 64 * done in
    let new = put_mid done k results part in
    let long : length part ≡ k = omega arith in
    let read : length (take w (drop (64 * done) frames)) ≡ w =
    length-take-le w (drop (64 * done) frames) (omega (arith, length-drop (64 * done) frames)) in
    let Is : ℕ → ℕ → Type 0 = λ p result. Reports result (IsVerdict bdk (front_frame (part_at 64 frames p))) in
    record {
      within = omega arith;
      kept = length-written done k results part long (omega arith) ∙ c.loop-done.invariant.kept;
      below = λ p h.
          elim (cases_lt p done) [
            | inl l ↦ subst (Is p) (sym (place_before p done k results part 0 l (omega arith))) (c.loop-done.invariant.below p l)
            | inr l ↦
                let found : Reports (get_or part (p - done) 0) (IsVerdict c.double_key-bdk.result (front_frame (part_at 64 (take w (drop (64 * done) frames)) (p - done)))) =
                c.check_group.ensures (p - done) (omega arith) in
                let key = c.double_key-bdk.ensures in
                let bytes = part_of_middle 64 (64 * done) (64 * (p - done)) (64 * p) w frames (omega arith) (omega arith) in
                subst (Is p) (sym (place_within done (p - done) p k results part 0 (omega arith) (omega arith) (omega arith)))
                (subst (λ key. Reports (get_or part (p - done) 0) (IsVerdict key (front_frame (part_at 64 frames p)))) key
                (subst (λ bytes. Reports (get_or part (p - done) 0) (IsVerdict c.double_key-bdk.result (front_frame bytes))) bytes found))
          ];
      behind =
          drop-put_mid done k results part (done + count) (omega arith) (omega arith) long
          ∙ drop_further done count (done + count) results c.args.results.now (omega arith) c.loop-done.invariant.behind;
    }
