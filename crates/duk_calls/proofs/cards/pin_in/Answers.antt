use Rattle.std.proofs.Common.{◌≡◌, ◌+◌, ◌-◌, ◌∙◌, ap, arith, drop, inl, inr, length, length-drop, slice_index_or, sym, take}
use Rattle.std.proofs.lemmas.Bool.{cases_lt}
use Rattle.std.proofs.lemmas.List.{drop-take, take_all}
use Rattle.duk_calls.proofs.cards.pin_in.Goals as goal

pub returns : goal.returns
returns c =
    let card = c.args.card.now in
    let count = slice_index_or card 20 0 in
    elim (cases_lt (length card) (21 + count)) [
      | inl longer ↦
          take_all (c.min.result - 21) (drop 21 card) (omega (arith, length-drop 21 card, c.min.ensures, c.from-end.ensures, longer))
          ∙ ap (drop 21) (sym (take_all (21 + count) card (omega (arith, longer))))
      | inr fits ↦
          let size : c.min.result - 21 ≡ count = omega (arith, c.min.ensures, c.from-end.ensures, fits) in
          ap (λ n. take n (drop 21 card)) size ∙ sym (drop-take 21 count card)
    ]
