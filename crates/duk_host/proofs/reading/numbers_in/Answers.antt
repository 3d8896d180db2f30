use Rattle.std.proofs.Common.{◌<◌, rules, refl, ◌∙◌}
use Rattle.std.proofs.lemmas.Result.{err_from_is_err_and}
use Rattle.duk_host.proofs.NumbersAreRead.{next_reading, refused_reading, start_reading}
use Rattle.duk_host.proofs.reading.numbers_in.Goals as goal

pub loop-place-init : goal.loop-place-init
loop-place-init g c = record {
  runs = c.requires.runs;
  counted = c.requires.kept;
  capacity = refl;
  disarmed = λ was. was;
  reading = rw c.new-used.ensures (start_reading g.L.UsedLog.meaning c.args.log.now);
}

pub returns-in_err-read_one-clause-refused : goal.returns-in_err-read_one-clause-refused
returns-in_err-read_one-clause-refused g c =
    let meaning = g.L.UsedLog.meaning in
    let within : c.loop-place.place < c.args.kept = search rules in
    let refused = refused_reading meaning c.args.log.now c.loop-place.log c.read_one.new.log c.loop-place.place c.args.kept c.loop-place.used _ within c.loop-place.invariant.reading c.in_err-read_one.ensures.refused in
    let p = err_from_is_err_and c.from_residual.result c.from_residual.ensures.1 in rw (p.1, p.2) refused

pub loop-place-preserved : goal.loop-place-preserved
loop-place-preserved g c =
    let meaning = g.L.UsedLog.meaning in
    let one = c.in_ok-read_one.ensures.read in
    record {
      runs = one.read.stays.running ∙ c.loop-place.invariant.runs;
      counted = c.in_ok-read_one.ensures.counted ∙ c.loop-place.invariant.counted;
      capacity = c.read_one.ensures.capacity ∙ c.loop-place.invariant.capacity;
      disarmed = λ was. c.read_one.ensures.disarmed (c.loop-place.invariant.disarmed was);
      reading = next_reading meaning c.args.log.now c.loop-place.log c.read_one.new.log c.loop-place.place c.loop-place.used c.read_one.new.used c.loop-place.invariant.reading one;
    }
