use Rattle.std.proofs.Common.{◌≡◌, ap, arith, sym, ◌∙◌}
use Rattle.duk_tree.specs.Serial.{serial_of_bytes}
use Rattle.duk_till.specs.Image.{IsLastBody, amount_in, state_byte}
use Rattle.duk_till.specs.Last.{number_of}
use Rattle.duk_till.specs.declared.last.Last.{Last}
use Rattle.duk_till.proofs.Places.{is_approved, is_declined, is_open, is_serial, is_undone, last_places}
use Rattle.duk_till.proofs.image.at_its_places.Goals as goal
use Rattle.duk_till.proofs.image.at_its_places.Goals.{After-read_u32-amount}

number : (c : After-read_u32-amount) (last : Last) → IsLastBody c.args.body.now last → c.from_bytes-ksn.result ≡ number_of last
number c last is =
    let places = last_places c.args.body.now last c.serials.ensures.ten is in
    c.from_bytes-ksn.ensures.value
    ∙ ap serial_of_bytes (c.array_of.ensures.bytes ∙ places.number)
    ∙ c.serials.ensures.found (number_of last) (is_serial last is.fields)

amount : (c : After-read_u32-amount) (last : Last) → IsLastBody c.args.body.now last → c.read_u32-amount.result ≡ amount_in last
amount c last is = c.read_u32-amount.ensures ∙ (last_places c.args.body.now last c.serials.ensures.ten is).amount

pub returns-in-1-clause-every : goal.returns-in-1-clause-every
returns-in-1-clause-every c = λ last is.
    let places = last_places c.args.body.now last c.serials.ensures.ten is in
    let state : state_byte last ≡ 1 = omega (arith, places.state, c.in-1.is) in
    let before = (goal.at.returns-in-1-clause-every c).After-read_u32-amount in
    is_open last c.from_bytes-ksn.result c.read_u32-amount.result state (number before last is) (amount before last is)

pub returns-in-2-clause-every : goal.returns-in-2-clause-every
returns-in-2-clause-every c = λ last is.
    let places = last_places c.args.body.now last c.serials.ensures.ten is in
    let state : state_byte last ≡ 2 = omega (arith, places.state, c.in-2.is) in
    let before = (goal.at.returns-in-2-clause-every c).After-read_u32-amount in
    is_approved last c.from_bytes-ksn.result c.read_u32-amount.result state (number before last is) (amount before last is)

pub returns-in_ok-decline_of_number-in-3-clause-every : goal.returns-in_ok-decline_of_number-in-3-clause-every
returns-in_ok-decline_of_number-in-3-clause-every c = λ last is.
    let places = last_places c.args.body.now last c.serials.ensures.ten is in
    let state : state_byte last ≡ 3 = omega (arith, places.state, c.in-3.is) in
    let before = (goal.at.returns-in_ok-decline_of_number-in-3-clause-every c).After-read_u32-amount in
    is_declined last c.from_bytes-ksn.result c.in_ok-decline_of_number-in-3.field-0 _ is.fields state (number before last is) (sym places.code)
    c.in_ok-decline_of_number-in-3.ensures.every

pub returns-in-4-clause-every : goal.returns-in-4-clause-every
returns-in-4-clause-every c = λ last is.
    let places = last_places c.args.body.now last c.serials.ensures.ten is in
    let state : state_byte last ≡ 4 = omega (arith, places.state, c.in-4.is) in
    let before = (goal.at.returns-in-4-clause-every c).After-read_u32-amount in
    is_undone last c.from_bytes-ksn.result state (number before last is)
