use Rattle.std.proofs.Common.{refl, arith, subst}
use Rattle.duk_group.specs.InOrder.{InOrder}
use Rattle.duk_commands.specs.Walk.{spent_line}
use Rattle.duk_commands.specs.inner.Walk.{HasWalked, HasWalkedInPart, IsSpentWithin, Passes, before_first, line_of}
use Rattle.duk_commands.proofs.WalkedText.{on_done, on_failed, walked, walked_in_part}
use Rattle.duk_commands.proofs.walk.write_walk.Goals as goal

pub returns-in-Some-clause-written : goal.returns-in-Some-clause-written
returns-in-Some-clause-written g c =
    let old = before_first c.args.walk.initial c.args.walk.iksn in
    let passes = subst (λ (keys : InOrder). Passes keys c.args.walk.skip c.pass_numbers.new.keys) c.new-keys.ensures (c.in-Some.ensures.passed refl) in
    on_done _ _ _ c.write_numbers.ensures.written (walked old c.pass_numbers.new.keys c.args.alone c.args.walk.skip c.args.walk.count _ _ passes)

pub returns-in-Some-clause-cut : goal.returns-in-Some-clause-cut
returns-in-Some-clause-cut g c =
    let old = before_first c.args.walk.initial c.args.walk.iksn in
    let passes = subst (λ (keys : InOrder). Passes keys c.args.walk.skip c.pass_numbers.new.keys) c.new-keys.ensures (c.in-Some.ensures.passed refl) in
    on_failed _ _ _ c.write_numbers.ensures.cut (walked_in_part old c.pass_numbers.new.keys c.args.alone c.args.walk.skip c.args.walk.count _ _ passes)

pub returns-in-None-clause-written : goal.returns-in-None-clause-written
returns-in-None-clause-written g c =
    let old = before_first c.args.walk.initial c.args.walk.iksn in
    let spent = subst (λ (keys : InOrder). IsSpentWithin keys c.args.walk.skip) c.new-keys.ensures (c.in-None.ensures.spent refl) in
    on_done _ _ (HasWalked old c.args.alone c.args.walk.skip c.args.walk.count (g.W.Sink.known c.args.output.now) (g.W.Sink.known c.write_text.new.sink))
    c.write_text.ensures.written
    (λ written. (spent_line, spent (line_of old c.args.alone) c.args.walk.count, written))

pub returns-in-None-clause-cut : goal.returns-in-None-clause-cut
returns-in-None-clause-cut g c =
    let old = before_first c.args.walk.initial c.args.walk.iksn in
    let spent = subst (λ (keys : InOrder). IsSpentWithin keys c.args.walk.skip) c.new-keys.ensures (c.in-None.ensures.spent refl) in
    on_failed _ _ (HasWalkedInPart old c.args.alone c.args.walk.skip c.args.walk.count (g.W.Sink.known c.args.output.now) (g.W.Sink.known c.write_text.new.sink))
    c.write_text.ensures.cut
    (λ cut. (c.args.walk.count, spent_line, omega arith, spent (line_of old c.args.alone) c.args.walk.count, cut))
