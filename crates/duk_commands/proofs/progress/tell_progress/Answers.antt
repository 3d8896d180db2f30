use Rattle.std.proofs.Common.{◌≡◌, true, false, sym, ◌∙◌, rules}
use Rattle.duk_commands.specs.Progress.{is_step}
use Rattle.duk_commands.proofs.ProgressLines.{told_at_step, told_between_steps}
use Rattle.duk_commands.proofs.progress.tell_progress.Goals as goal

pub returns-in-Some : goal.returns-in-Some
returns-in-Some g c begin before =
    let is : is_step c.in-Some.step c.args.tried ≡ true = search rules in
    told_at_step c.args.sought.now c.in-Some.step c.args.most c.args.tried begin _ _ (sym c.progress_step.ensures.step ∙ c.in-Some.is) is c.tell_line.ensures before

pub returns-else-tried-step-eq0 : goal.returns-else-tried-step-eq0
returns-else-tried-step-eq0 g c begin before =
    let is : is_step c.in-Some.step c.args.tried ≡ false = search rules in
    told_between_steps c.args.sought.now c.in-Some.step c.args.most c.args.tried begin _ (sym c.progress_step.ensures.step ∙ c.in-Some.is) is before
