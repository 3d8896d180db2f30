use Rattle.std.proofs.Common.{◌≡◌, ◌+◌, ◌-◌, ◌*◌, ◌∙◌, IsTrue, arith, drop, false, rules, subst, sym, take}
use Rattle.std.proofs.lemmas.Bool.{false≢true}
use borrow.Author.Count.{below_more}
use Rattle.duk_calls.specs.Answer.{part_at}
use Rattle.duk_calls.specs.Hosts.{IsCard, card_in}
use Rattle.duk_calls.proofs.cards.are_cards.Goals as goal

pub returns-then-not-is_card : goal.returns-then-not-is_card
returns-then-not-is_card c =
    let cards = c.args.cards.now in
    let place = c.loop-place.place in
    let width : 37 * place + 37 - 37 * place ≡ 37 = omega arith in
    let failed : c.is_card.result ≡ false = search rules in (
      (λ no other within. absurd (false≢true no)),
      (λ are. sym failed ∙ c.is_card.ensures.1 (subst (λ n. IsCard (card_in (take n (drop (37 * place) cards)))) (sym width) (are place c.loop-place-test.true))),
    )

pub loop-place-preserved : goal.loop-place-preserved
loop-place-preserved c =
    let cards = c.args.cards.now in
    let place = c.loop-place.place in
    let width : 37 * place + 37 - 37 * place ≡ 37 = omega arith in
    let is : IsTrue c.is_card.result = search rules in
    record {
      below =
          below_more (λ p. IsCard (card_in (part_at 37 cards p))) place c.loop-place.invariant.below
          (subst (λ n. IsCard (card_in (take n (drop (37 * place) cards)))) width (c.is_card.ensures.0 is));
    }
