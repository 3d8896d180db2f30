use Rattle.std.proofs.Common.{◌≡◌}
use Rattle.std.specs.Option.{option_map}
use Rattle.duk_tdes.specs.KeyBytes.{bytes_of}
use Rattle.duk_calls.specs.Modules.{AreLoaded}
use Rattle.duk_calls.proofs.module_keys.held_in.Given as goal

abbrev pub invariant-loop-i : goal.invariant-loop-i
invariant-loop-i g l = record {
  loaded : AreLoaded l.image l.i l.held.hsm;
  lmk : l.held.hsm.lmk ≡ l.lmk;
  zone : option_map bytes_of l.held.zone ≡ l.held.hsm.zone;
}
