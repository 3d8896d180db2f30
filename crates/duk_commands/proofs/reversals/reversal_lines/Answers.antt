use Rattle.std.proofs.Common.{◌≡◌, Some, rules}
use Rattle.duk_commands.specs.Start.{IsStart}
use Rattle.duk_commands.proofs.ReversalOrder.{number_refused, numbers_refused, start_refused}
use Rattle.duk_tree.specs.Serial.{ksn_of_text}
use Rattle.duk_commands.proofs.reversals.reversal_lines.Goals as goal

pub returns-in_err-start-clause-refused : goal.returns-in_err-start-clause-refused
returns-in_err-start-clause-refused c =
    let refused = start_refused c.args.ksn.now c.args.number.now c.args.given c.read_start.result c.read_start.ensures.refused in
    search (rules, refused)

pub returns-in_err-reversed-clause-refused : goal.returns-in_err-reversed-clause-refused
returns-in_err-reversed-clause-refused c =
    let start : IsStart c.args.given c.args.ksn.now c.in_ok-start.start.initial c.in_ok-start.start.ksn = search rules in
    let refused = number_refused c.args.ksn.now c.args.number.now c.args.given _ _ start (search rules) in
    search (rules, refused)

pub returns-in_err-numbers-clause-refused : goal.returns-in_err-numbers-clause-refused
returns-in_err-numbers-clause-refused c =
    let start : IsStart c.args.given c.args.ksn.now c.in_ok-start.start.initial c.in_ok-start.start.ksn = search rules in
    let read : ksn_of_text c.args.number.now ≡ Some c.in_ok-reversed.reversed = search rules in
    let refused = numbers_refused c.args.ksn.now c.args.number.now c.args.given _ _ _ c.numbers_of.result start read c.numbers_of.ensures.refused in
    search (rules, refused)
