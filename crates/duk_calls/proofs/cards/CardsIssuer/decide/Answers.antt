use Rattle.std.proofs.Common.{◌≡◌, ◌+◌, ◌-◌, ◌*◌, ◌∙◌, Some, ap, ap₂, arith, drop, sym, take}
use Rattle.duk_host.specs.Table.{CardTable, card_code, found_code, table_decision}
use Rattle.duk_pin.specs.PinBlock.{pin_in_block}
use Rattle.duk_tdes.specs.KeyBytes.{bytes_of}
use Rattle.duk_tdes.specs.Tdes.{tdes_decrypted}
use Rattle.duk_calls.specs.Hosts.{card_in}
use Rattle.duk_calls.proofs.cards.CardsIssuer.decide.Goals as goal

pub returns-in-Some-decode : goal.returns-in-Some-decode
returns-in-Some-decode c =
    let cards = c.self.inside.cards.now in
    let zone = bytes_of c.self.inside.zone in
    let pan = c.args.pan.now in
    let amount = c.args.amount in
    let block = c.args.block in
    let place = c.in-Some.place in
    let pin = c.in-Some-decode.pin in
    let width : 37 * place + 37 - 37 * place ≡ 37 = omega arith in
    let read : Some pin ≡ pin_in_block pan (tdes_decrypted zone block) = c.in-Some-decode.ensures.value ∙ ap (pin_in_block pan) c.decrypt.ensures in
    c.code_of.ensures
    ∙ ap (λ n. card_code (card_in (take n (drop (37 * place) cards))) pin amount) width
    ∙ ap₂ (λ card pin. found_code card pin amount) (sym c.in-Some.ensures.1) read
    ∙ ap (λ (table : CardTable). table_decision table pan amount block) c.self.view_is
