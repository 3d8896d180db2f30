use Rattle.duk_script.proofs.CommandLines.{load_every, begin_every, down_every, arm_every, command_of, command_split, unknown}
use Rattle.duk_script.proofs.event_line.event_of.Goals as goal

pub returns-in_err-command-clause-every : goal.returns-in_err-command-clause-every
returns-in_err-command-clause-every c = λ event is.
    let split = command_split c.args.line.now event is in
    absurd (c.in_err-command.ensures.every (command_of event) split.0 split.1)

pub returns-in-load-clause-every : goal.returns-in-load-clause-every
returns-in-load-clause-every c =
    load_every c.args.line.now c.in_ok-command.tokens.now c.load.result (rw c.in-load.is at c.in_ok-command.ensures.found) c.load.ensures.every

pub returns-in-begin-clause-every : goal.returns-in-begin-clause-every
returns-in-begin-clause-every c =
    begin_every c.args.line.now c.in_ok-command.tokens.now c.begin.result (rw c.in-begin.is at c.in_ok-command.ensures.found) c.begin.ensures.every

pub returns-in-down-clause-every : goal.returns-in-down-clause-every
returns-in-down-clause-every c =
    down_every c.args.line.now c.in_ok-command.tokens.now c.down.result (rw c.in-down.is at c.in_ok-command.ensures.found) c.down.ensures.every

pub returns-in-arm-clause-every : goal.returns-in-arm-clause-every
returns-in-arm-clause-every c =
    arm_every c.args.line.now c.in_ok-command.tokens.now c.arm.result (rw c.in-arm.is at c.in_ok-command.ensures.found) c.arm.ensures.every

pub returns-in_default-clause-every : goal.returns-in_default-clause-every
returns-in_default-clause-every c = λ event is.
    let split = command_split c.args.line.now event is in
    let same = c.in_ok-command.ensures.every (command_of event) split.0 split.1 in
    unknown c.in_ok-command.command.now c.in_default.not-load c.in_default.not-begin c.in_default.not-up c.in_default.not-down
    c.in_default.not-restart c.in_default.not-arm event same.0
