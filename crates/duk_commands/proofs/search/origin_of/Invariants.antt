use Rattle.duk_commands.proofs.SearchSteps.{NoneBefore}
use Rattle.duk_commands.proofs.search.origin_of.Given as goal

-- no key before this one makes what is looked for
abbrev pub invariant-loop-place : goal.invariant-loop-place
invariant-loop-place l = NoneBefore l.sought l.key l.place
