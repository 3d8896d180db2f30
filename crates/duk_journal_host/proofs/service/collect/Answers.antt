use Rattle.std.proofs.Common.{◌+◌, ◌++◌, ◌∷◌, [], map, take, refl, sym, ap, subst, ◌∙◌, arith, length-drop, rules}
use Rattle.std.proofs.lemmas.List.{map-append, take_rest}
use Rattle.duk_frame.specs.Stream.{BeginsWith}
use Rattle.duk_journal_host.proofs.Collecting.{before_too_long, begins_next, begins_too_long, collected_all, on_err}
use Rattle.duk_journal_host.proofs.service.collect.Goals as goal

pub returns-in_err-taken-clause-too_long : goal.returns-in_err-taken-clause-too_long
returns-in_err-taken-clause-too_long c =
    let frames = map (λ frame. frame.items) c.loop-feeder.frames.items in
    let refused = rw take_rest at (c.in_err-taken.ensures.too_long.0 refl) in
    let too_long = begins_too_long c.loop-feeder.feeder.failed _ c.loop-feeder.invariant.goes_on refused in
    on_err c.from_residual.result (before_too_long c.args.feeder.now c.loop-feeder.feeder c.args.piece.now c.loop-feeder.done frames c.loop-feeder.invariant.begins too_long)

pub returns-in_default-clause-collected : goal.returns-in_default-clause-collected
returns-in_default-clause-collected c =
    let frames = map (λ frame. frame.items) c.loop-feeder.frames.items in
    let all = rw (c.in_default.is, take_rest) at c.in_ok-taken.ensures.none in
    collected_all c.args.feeder.now c.loop-feeder.feeder c.feed.new.self c.args.piece.now c.loop-feeder.done c.in_ok-taken.taken frames c.loop-feeder.invariant.begins all

pub loop-feeder-preserved : goal.loop-feeder-preserved
loop-feeder-preserved c =
    let frames = map (λ frame. frame.items) c.loop-feeder.frames.items in
    let out = rw (c.in-Some.is, take_rest) at c.in_ok-taken.ensures.frame in
    let next = begins_next c.args.feeder.now.rest c.args.piece.now c.loop-feeder.feeder c.feed.new.self c.loop-feeder.done c.in_ok-taken.taken frames c.in-Some.frame.items c.loop-feeder.invariant.begins out in
    let more = map-append (λ frame. frame.items) c.loop-feeder.frames.items (c.in-Some.frame ∷ []) in
    record {
      within = omega (arith, out.ends.within, length-drop c.loop-feeder.done c.args.piece.now, c.loop-feeder.invariant.within);
      few = search rules;
      some = search rules;
      nothing_left = λ _. out.nothing_left;
      room = search rules;
      goes_on = search rules;
      begins =
          subst (λ frames. BeginsWith (c.args.feeder.now.rest ++ take (c.loop-feeder.done + c.in_ok-taken.taken) c.args.piece.now) frames c.feed.new.self.rest)
          (sym (ap (λ frames. map (λ frame. frame.items) frames) c.push_reserved.ensures.items ∙ more)) next;
    }
