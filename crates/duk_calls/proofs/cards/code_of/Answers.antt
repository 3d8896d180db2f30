use Rattle.std.proofs.Common.{rules, ◌≡◌, true, bytes_eq, arith}
use Rattle.std.proofs.lemmas.Slice.Eq.{bytes_eq-Decides}
use Rattle.duk_calls.specs.Hosts.{card_in}
use Rattle.duk_calls.proofs.cards.code_of.Goals as goal

pub returns-then-amount-limit_in : goal.returns-then-amount-limit_in
returns-then-amount-limit_in c =
    let card = card_in c.args.card.now in
    let pins : card.pin ≡ c.args.pin.now = search (rules, arith) in
    let same : bytes_eq card.pin c.args.pin.now ≡ true = (bytes_eq-Decides card.pin c.args.pin.now).1 pins in
    search (rules, arith, same)

pub returns-else-amount-limit_in : goal.returns-else-amount-limit_in
returns-else-amount-limit_in c =
    let card = card_in c.args.card.now in
    let pins : card.pin ≡ c.args.pin.now = search (rules, arith) in
    let same : bytes_eq card.pin c.args.pin.now ≡ true = (bytes_eq-Decides card.pin c.args.pin.now).1 pins in
    search (rules, arith, same)
