use Rattle.std.proofs.Common.{rules}
use Rattle.duk_pin.specs.Pan.{IsPan}
use Rattle.duk_pin.specs.Pin.{IsPin}
use Rattle.duk_commands.specs.Start.{IsStart}
use Rattle.duk_commands.proofs.RequestOrder.{amount_refused, pan_refused, pin_refused, start_refused}
use Rattle.duk_commands.proofs.frames.request_lines.Goals as goal

pub returns-in_err-start-clause-refused : goal.returns-in_err-start-clause-refused
returns-in_err-start-clause-refused c =
    let refused = start_refused c.args.ksn.now c.args.pan.now c.args.pin.now c.args.amount.now c.args.given c.read_start.result c.read_start.ensures.refused in
    search (rules, refused)

pub returns-in_err-pan-clause-refused : goal.returns-in_err-pan-clause-refused
returns-in_err-pan-clause-refused c =
    let start : IsStart c.args.given c.args.ksn.now c.in_ok-start.start.initial c.in_ok-start.start.ksn = search rules in
    let read = c.parse.ensures in
    let refused = pan_refused c.args.ksn.now c.args.pan.now c.args.pin.now c.args.amount.now c.args.given _ _ c.parse.result start read.ok read.wrong_length read.wrong_digit in
    search (rules, refused)

pub returns-in_err-pin-clause-refused : goal.returns-in_err-pin-clause-refused
returns-in_err-pin-clause-refused c =
    let start : IsStart c.args.given c.args.ksn.now c.in_ok-start.start.initial c.in_ok-start.start.ksn = search rules in
    let is_pan : IsPan c.args.pan.now = search rules in
    let read = c.parse-2.ensures in
    let refused = pin_refused c.args.ksn.now c.args.pan.now c.args.pin.now c.args.amount.now c.args.given _ _ c.parse-2.result start is_pan read.ok read.wrong_length read.wrong_digit in
    search (rules, refused)

pub returns-in_err-amount-clause-refused : goal.returns-in_err-amount-clause-refused
returns-in_err-amount-clause-refused c =
    let start : IsStart c.args.given c.args.ksn.now c.in_ok-start.start.initial c.in_ok-start.start.ksn = search rules in
    let is_pan : IsPan c.args.pan.now = search rules in
    let is_pin : IsPin c.args.pin.now = search rules in
    let refused = amount_refused c.args.ksn.now c.args.pan.now c.args.pin.now c.args.amount.now c.args.given _ _ start is_pan is_pin (search rules) in
    search (rules, refused)
