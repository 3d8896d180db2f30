use Rattle.std.proofs.Common.{map, take}
use Rattle.duk_host.specs.Used.{Lists}
use Rattle.duk_show.specs.inner.OneLog.{as_used}
use Rattle.duk_show.proofs.one_log.first_unusable.Given as goal

-- the used numbers are those before this place, as they may be used
abbrev pub invariant-loop-place : goal.invariant-loop-place
invariant-loop-place l = Lists (map (as_used l.keeps) (take l.place l.numbers)) l.used
