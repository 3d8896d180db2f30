use Rattle.std.proofs.Common.{◌≡◌, None, take}
use Rattle.duk_config.specs.Opened.{key_sets_of}
use Rattle.duk_config.proofs.hsm.open_hsm.Given as goal

abbrev pub invariant-loop-bdk : goal.invariant-loop-bdk
invariant-loop-bdk g l = l.hsm ≡ record { lmk = l.lmk; zone = None; key_sets = key_sets_of (take l.bdk-index l.bdk-items) }
