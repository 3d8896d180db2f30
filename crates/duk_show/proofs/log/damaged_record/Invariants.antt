use Rattle.duk_show.specs.Log.{BeginsLog}
use Rattle.duk_show.proofs.log.damaged_record.Given as goal

-- the records so far are those of a log
abbrev pub invariant-loop-place : goal.invariant-loop-place
invariant-loop-place l = BeginsLog l.place l.count l.bytes
