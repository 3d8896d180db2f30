use Rattle.std.proofs.Common.{◌≡◌, true}
use Rattle.duk_host.proofs.NumbersAreRead.{IsReading}
use Rattle.duk_host.proofs.reading.numbers_in.Given as goal

abbrev pub invariant-loop-place : goal.invariant-loop-place
invariant-loop-place g l = record {
  runs : (g.L.UsedLog.meaning.state_of l.log).running ≡ true;
  counted : g.L.UsedLog.meaning.count l.log ≡ l.fn.kept;
  capacity : g.L.UsedLog.meaning.capacity l.log ≡ g.L.UsedLog.meaning.capacity l.fn.log;
  disarmed : g.L.UsedLog.meaning.disarmed l.fn.log → g.L.UsedLog.meaning.disarmed l.log;
  reading : IsReading g.L.UsedLog.meaning l.fn.log l.log l.place l.used;
}
