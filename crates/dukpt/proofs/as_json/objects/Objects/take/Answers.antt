use Rattle.dukpt.proofs.Added.{adds_after, adds_more}
use Rattle.dukpt.proofs.as_json.objects.Objects.take.Goals as goal

pub loop-piece-preserved : goal.loop-piece-preserved
loop-piece-preserved c = adds_more c.args.self.now.ready.items c.loop-piece.self.ready.items c.take_piece.new.self.ready.items c.loop-piece.invariant c.in_ok-take_piece.ensures

pub returns-in-Items : goal.returns-in-Items
returns-in-Items c = adds_after c.end_answer.result c.args.self.now.ready.items c.loop-piece.self.ready.items c.end_answer.new.self.ready.items c.loop-piece.invariant c.end_answer.ensures.added
