use Rattle.dukpt.specs.inner.Objects.{AddsObjects}
use Rattle.dukpt.proofs.as_json.objects.Objects.take.Given as goal

abbrev pub invariant-loop-piece : goal.invariant-loop-piece
invariant-loop-piece l = AddsObjects l.fn.self.ready.items l.self.ready.items
