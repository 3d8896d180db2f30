use Rattle.std.proofs.Common.{sym, ◌∙◌, subst, true≢false}
use Rattle.duk_host.specs.declared.ranges.Range.{Range}
use Rattle.duk_host.specs.inner.Index.{EndsWith, Reaches}
use Rattle.duk_host.proofs.NeighbouringRanges.{is_joined, ranges_unchanged}
use Rattle.duk_host.proofs.RangeWithOneMore.{IsJoined, holds_one_more, still_ranges, was_fresh}
use Rattle.duk_host.proofs.ranges.insert.Goals as goal
use Rattle.duk_host.proofs.ranges.insert.Goals.{In_ok-put}

-- the range that was put in
abbrev whole : In_ok-put → Range
whole c = record { first = c.first_with.result; last = c.last_with.result }

joined : (c : In_ok-put) → IsJoined c.args.ranges.now c.put.new.ranges c.args.ksn (whole c)
joined c =
    let ksn = c.args.ksn in
    let before = c.neighbours-before.result.0 in
    let after = c.neighbours-before.result.1 in
    let unreached = λ (reached : Reaches before ksn.counter).
    let found = subst (λ counter. Reaches before counter) (sym c.counter.ensures.value) reached in
    true≢false (sym (c.reaches.ensures.1 found) ∙ c.if-reaches.false) in
    let ends = subst (λ counter. EndsWith counter after c.last_with.result) c.counter-2.ensures.value c.last_with.ensures in
    is_joined c.args.ranges.now c.put.new.ranges ksn (whole c) before after c.requires.ranges c.counter.ensures.serial c.requires.usable c.neighbours-before.ensures.before
    unreached c.first_with.ensures c.neighbours-before.ensures.after ends c.in_ok-put.ensures.put

pub returns-clause-ranges : goal.returns-clause-ranges
returns-clause-ranges c = still_ranges c.args.ranges.now c.put.new.ranges c.args.ksn (whole c) (joined c)

pub returns-clause-added : goal.returns-clause-added
returns-clause-added c = holds_one_more c.args.ranges.now c.put.new.ranges c.args.ksn (whole c) (joined c)

pub returns-clause-fresh : goal.returns-clause-fresh
returns-clause-fresh c = was_fresh c.args.ranges.now c.put.new.ranges c.args.ksn (whole c) (joined c)

pub returns-in_err-put-clause-ranges : goal.returns-in_err-put-clause-ranges
returns-in_err-put-clause-ranges c = ranges_unchanged c.args.ranges.now c.put.new.ranges c.in_err-put.ensures.same c.requires.ranges
