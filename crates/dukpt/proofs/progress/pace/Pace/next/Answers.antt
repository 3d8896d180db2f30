use Rattle.std.proofs.Common.{rules}
use Rattle.dukpt.proofs.Parts.{next_at_end}
use Rattle.dukpt.proofs.progress.pace.Pace.next.Goals as goal

pub returns-then-until-left-clause-next : goal.returns-then-until-left-clause-next
returns-then-until-left-clause-next c =
    next_at_end c.args.self.total c.args.before c.args.done c.args.self.each c.args.self.is_each c.requires
    (search rules) (search rules)
