use Rattle.std.proofs.Common.{inr, refl}
use Rattle.duk_program.proofs.commands.run.run_files.Goals as goal

pub returns-clause-not_done : goal.returns-clause-not_done
returns-clause-not_done g c = inr (inr (record {
  config = _;
  configured = c.in_ok-config.ensures.configured;
  script = c.as_slice.result.now;
  script_read = rw c.as_slice.ensures.value c.in-Ok.ensures.read;
  cause = c.in-Err.why;
  why_is = refl;
  run = c.in-Err.ensures.not_done;
}))
