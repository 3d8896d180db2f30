use Rattle.std.proofs.Common.{◌≡◌, ◌∙◌, ◌+◌, ◌++◌, ◌∷◌, [], ap, arith, get_or, length, subst, sym, take}
use Rattle.std.proofs.lemmas.List.{length_push, take_all, take_more}
use Rattle.duk_journal_host.specs.Candidate.{ArePaired}
use Rattle.duk_journal_host.specs.inner.Draft.{IsDraftOf}
use Rattle.duk_journal_host.proofs.Paired.{paired_more}
use Rattle.duk_journal_host.proofs.answer.drafts_of.Goals as goal

pub loop-one-preserved : goal.loop-one-preserved
loop-one-preserved c =
    let settled = c.args.settled.now in
    let place = c.loop-one.one-index in
    let one = c.one-item.result in
    let drafts = c.loop-one.drafts.items in
    let draft = c.answer.result in
    let is : get_or settled place one ≡ one = sym c.one-item.is in
    let more : take place settled ++ one ∷ [] ≡ take (place + 1) settled = sym (take_more settled place one c.loop-one-test.true ∙ ap (λ one. take place settled ++ one ∷ []) is) in
    record {
      counted = omega (arith, ap length c.push.ensures.items, length_push drafts draft, c.loop-one.invariant.counted);
      are = subst (λ drafts. ArePaired IsDraftOf (take (place + 1) settled) drafts) (sym c.push.ensures.items)
          (subst (λ settled. ArePaired IsDraftOf settled (drafts ++ draft ∷ [])) more
          (paired_more IsDraftOf (take place settled) drafts one draft c.loop-one.invariant.are (record { answer = c.answer.ensures.answer; under = c.answer.ensures.under })));
    }

pub returns : goal.returns
returns c =
    subst (λ settled. ArePaired IsDraftOf settled c.loop-one.drafts.items) (take_all c.loop-one.one-index c.args.settled.now (omega (arith, c.loop-one-test.false))) c.loop-one.invariant.are
