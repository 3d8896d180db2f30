use Rattle.std.proofs.Common.{◌≡◌, ◌≢◌, ◌+◌, ◌-◌, ◌*◌, ◌/◌, ◌∙◌, IsTrue, suc, ap, ap₂, arith, drop, false, length, rules, sym, take}
use Rattle.std.proofs.lemmas.Bool.{false≢true}
use Rattle.duk_host.specs.Table.{card_of}
use Rattle.duk_calls.specs.Answer.{part_at}
use Rattle.duk_calls.specs.Hosts.{card_in, cards_from}
use Rattle.duk_calls.proofs.HostPlaces.{first_card, other_card}
use Rattle.duk_calls.proofs.cards.place_of.Goals as goal

pub returns-then-has_pan : goal.returns-then-has_pan
returns-then-has_pan c =
    let cards = c.args.cards.now in
    let pan = c.args.pan.now in
    let place = c.loop-place.place in
    let count = length cards / 37 - place - 1 in
    let width : 37 * place + 37 - 37 * place ≡ 37 = omega arith in
    let found : IsTrue c.has_pan.result = search rules in
    let same : (card_in (part_at 37 cards place)).pan ≡ pan =
    ap (λ n. (card_in (take n (drop (37 * place) cards))).pan) (sym width) ∙ c.has_pan.ensures.0 found in
    let left : suc count ≡ length cards / 37 - place = omega (arith, c.loop-place-test.true) in
    (c.loop-place-test.true, sym c.loop-place.invariant.left ∙ ap (λ n. card_of pan (cards_from cards place n)) (sym left) ∙ first_card pan cards place count same)

pub loop-place-preserved : goal.loop-place-preserved
loop-place-preserved c =
    let cards = c.args.cards.now in
    let pan = c.args.pan.now in
    let place = c.loop-place.place in
    let count = length cards / 37 - place - 1 in
    let width : 37 * place + 37 - 37 * place ≡ 37 = omega arith in
    let failed : c.has_pan.result ≡ false = search rules in
    let other : (card_in (part_at 37 cards place)).pan ≢ pan = λ same.
    false≢true (sym failed ∙ c.has_pan.ensures.1 (ap (λ n. (card_in (take n (drop (37 * place) cards))).pan) width ∙ same)) in
    let left : suc count ≡ length cards / 37 - place = omega (arith, c.loop-place-test.true) in
    let next : place + 1 ≡ suc place = omega arith in
    let fewer : length cards / 37 - (place + 1) ≡ count = omega arith in
    record {
      left =
          ap₂ (λ place count. card_of pan (cards_from cards place count)) next fewer
          ∙ sym (other_card pan cards place count other)
          ∙ ap (λ n. card_of pan (cards_from cards place n)) left
          ∙ c.loop-place.invariant.left;
    }
