use Rattle.dukpt.proofs.Added.{adds_after}
use Rattle.dukpt.proofs.as_json.objects.Objects.say_fault.Goals as goal

pub returns : goal.returns
returns c = adds_after c.end_answer-2.result c.args.self.now.ready.items c.end_answer.new.self.ready.items c.end_answer-2.new.self.ready.items c.in_ok-end_answer.ensures.added c.end_answer-2.ensures.added
