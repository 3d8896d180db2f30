use Rattle.dukpt.proofs.Added.{adds_after}
use Rattle.dukpt.proofs.as_json.objects.Objects.end.Goals as goal

pub returns : goal.returns
returns c = adds_after c.end_answer.result c.args.self.now.ready.items c.end_line.new.self.ready.items c.end_answer.new.self.ready.items c.in_ok-end_line.ensures c.end_answer.ensures.added
