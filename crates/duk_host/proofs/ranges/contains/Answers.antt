use Rattle.std.proofs.Common.{sym, ◌∙◌, subst, true≢false}
use Rattle.duk_host.specs.inner.Index.{Reaches}
use Rattle.duk_host.proofs.NeighbouringRanges.{held_iff_reached}
use Rattle.duk_host.proofs.ranges.contains.Goals as goal

pub returns-else-reaches-clause-held : goal.returns-else-reaches-clause-held
returns-else-reaches-clause-held c =
    let held = held_iff_reached c.args.ranges.now c.args.ksn c.range_before.result c.requires.ranges c.range_before.ensures.found in (
      λ is. absurd (true≢false (sym is ∙ c.if-reaches.false)),
      λ is_held. c.reaches.ensures.1 (subst (λ counter. Reaches c.range_before.result counter) (sym c.counter.ensures.value) (held.1 is_held).0),
    )
