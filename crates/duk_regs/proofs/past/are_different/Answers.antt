use Rattle.std.proofs.Common.{◌≢◌, ℕ, AllPairs, Contains, get_or, take, refl, sym, subst, arith}
use Rattle.std.proofs.lemmas.Bool.{false≢true}
use Rattle.std.proofs.lemmas.List.{take_all, take_more}
use Rattle.duk_regs.proofs.PastIksns.{different_push}
use Rattle.duk_regs.proofs.past.are_different.Goals as goal

pub loop-place-preserved : goal.loop-place-preserved
loop-place-preserved c =
    let iksns = c.args.iksns.now in
    let place = c.loop-place.place in
    let iksn = get_or iksns place c.index-iksns-place.result in
    let absent : ¬ Contains (take place iksns) iksn = λ found. absurd (false≢true (c.if-is_among.ensures.1 (subst (Contains (take place iksns)) (sym c.index-iksns-place.is) found))) in
    subst (AllPairs (λ (one other : ℕ). one ≢ other)) (sym (take_more iksns place c.index-iksns-place.result c.loop-place-test.true)) (different_push (take place iksns) iksn c.loop-place.invariant absent)

pub returns : goal.returns
returns c =
    let whole = take_all c.loop-place.place c.args.iksns.now (omega arith) in
    (λ yes. subst (AllPairs (λ (one other : ℕ). one ≢ other)) whole c.loop-place.invariant, λ different. refl)
