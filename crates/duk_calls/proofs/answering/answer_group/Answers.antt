use Rattle.std.proofs.Common.{◌≡◌, ◌*◌, ◌+◌, ◌-◌, ◌/◌, ℕ, List, ap, arith, drop, get_or, length, rules, subst, sym, take, ◌∙◌}
use borrow.Author.Count.{below_more}
use borrow.Rule.Slice.PartMut.{put_mid}
use Rattle.std.proofs.lemmas.List.{get_or-take, length-take-le, take_all}
use Rattle.arrayvec.specs.ArrayVec.{ArrayVec}
use Rattle.duk_journal_host.specs.Candidate.{IsAnswered}
use Rattle.duk_journal_host.specs.declared.settlement.Settled.{Settled}
use Rattle.duk_calls.specs.Answer.{part_at}
use Rattle.duk_calls.specs.Hosts.{SaysAnswer, SaysSettled}
use Rattle.duk_calls.proofs.HostPlaces.{as_many_paired, paired_at}
use Rattle.duk_calls.proofs.Parts.{length-written, part_before, part_within}
use Rattle.duk_calls.proofs.answering.answer_group.Goals as goal

pub bounds-deref-i : goal.bounds-deref-i
bounds-deref-i g c =
    let count = length c.args.settled.now / 64 in
    let all = c.settled_in-all.result in
    let found = c.answer_together-found.result.items in
    let many : length (take count all) ≡ count = length-take-le count all (omega (arith, c.settled_in-all.ensures.size, c.requires.few)) in
    omega (arith, c.loop-i-test.true, as_many_paired (IsAnswered c.args.hsm.now) (take count all) found c.answer_together-found.ensures, many, ap length c.deref.ensures.0)

pub place_for-place-requires : goal.place_for-place-requires
place_for-place-requires g c =
    let settled = c.args.settled.now in
    let count = length settled / 64 in
    let i = c.loop-i.i in
    let all = c.settled_in-all.result in
    let one = c.index-all-i.result in
    let found = c.answer_together-found.result.items in
    let frame = c.index-deref-i.result in
    let Answered : Settled → ArrayVec ℕ → Type 0 = IsAnswered c.args.hsm.now in
    let width : 64 * i + 64 - 64 * i ≡ 64 = omega arith in
    let many : length (take count all) ≡ count = length-take-le count all (omega (arith, c.settled_in-all.ensures.size, c.requires.few)) in
    let frame_is : get_or found i frame ≡ frame = ap (λ (all : List (ArrayVec ℕ)). get_or all i frame) (sym c.deref.ensures.0) ∙ sym c.index-deref-i.is in
    let answered : Answered (get_or all i one) frame =
    subst (λ one. Answered one frame) (get_or-take count all i one c.loop-i-test.true)
    (subst (Answered (get_or (take count all) i one)) frame_is
    (paired_at Answered (take count all) found i one frame c.answer_together-found.ensures (omega (arith, c.loop-i-test.true, many)))) in
    let read : (other : Settled) → SaysSettled (part_at 64 settled i) other → SaysSettled (part_at 64 settled i) (get_or all i one) = λ other says.
    c.settled_in-all.ensures.read i c.loop-i-test.true one other says in (
      search rules,
      (
        search rules,
        (
          subst (λ n. (other : Settled) → SaysSettled (take n (drop (64 * i) settled)) other → SaysSettled (take n (drop (64 * i) settled)) (get_or all i one)) (sym width) read,
          answered,
        ),
      ),
    )

pub loop-i-preserved : goal.loop-i-preserved
loop-i-preserved g c =
    let settled = c.args.settled.now in
    let i = c.loop-i.i in
    let answers = c.loop-i.answers in
    let part = c.copy_from_slice.new.self in
    let k = 64 * i + 64 - 64 * i in
    let put = put_mid (64 * i) k answers part in
    let place = c.place_for-place.result in
    let width : k ≡ 64 = omega arith in
    let long : length part ≡ 64 = omega (arith, c.copy_from_slice.ensures.len) in
    let Says : ℕ → List ℕ → Type 0 = λ p answer. SaysAnswer c.args.hsm.now (part_at 64 settled p) answer in
    let here : Says i place = subst (λ n. SaysAnswer c.args.hsm.now (take n (drop (64 * i) settled)) place) width c.place_for-place.ensures in
    let written : part_at 64 put i ≡ place =
    part_within 64 (64 * i) 0 (64 * i) k answers part (omega arith) (omega (arith, long)) (omega arith)
    ∙ take_all 64 part (omega (arith, long))
    ∙ c.copy_from_slice.ensures.after in
    record {
      kept = length-written (64 * i) k answers part (omega (arith, long)) (omega arith) ∙ c.loop-i.invariant.kept;
      below =
          below_more (λ p. Says p (part_at 64 put p)) i
          (λ p h. subst (Says p) (sym (part_before 64 (64 * p) (64 * i) k answers part (omega (arith, h)) (omega arith))) (c.loop-i.invariant.below p h))
          (subst (Says i) (sym written) here);
    }
