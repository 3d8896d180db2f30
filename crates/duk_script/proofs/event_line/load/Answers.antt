use Rattle.std.proofs.Common.{ap, ◌∙◌}
use Rattle.duk_tree.specs.Serial.{iksn_of_text}
use Rattle.duk_script.specs.Script.{terminal_name}
use Rattle.duk_script.proofs.event_line.load.Goals as goal

pub returns-in_err-t-clause-every : goal.returns-in_err-t-clause-every
returns-in_err-t-clause-every c = λ t iksn are. absurd (c.in_err-t.ensures.every (terminal_name t) are.text are.split)

pub returns-in_err-t-2-clause-every : goal.returns-in_err-t-2-clause-every
returns-in_err-t-2-clause-every c = λ t iksn are.
    let same = c.in_ok-t.ensures.every (terminal_name t) are.text are.split in
    cc (c.in_err-t-2.ensures.every t are.terminal same.0)

pub returns-in_err-iksn-clause-every : goal.returns-in_err-iksn-clause-every
returns-in_err-iksn-clause-every c = λ t iksn are.
    let same = c.in_ok-t.ensures.every (terminal_name t) are.text are.split in
    cc (c.in_err-iksn.ensures.value ∙ ap iksn_of_text same.1 ∙ are.spelled)

pub returns-clause-every : goal.returns-clause-every
returns-clause-every c = λ t iksn are.
    let same = c.in_ok-t.ensures.every (terminal_name t) are.text are.split in
    cc (c.in_ok-t-2.ensures.every t are.terminal same.0, c.in_ok-iksn.ensures.value ∙ ap iksn_of_text same.1 ∙ are.spelled)
