use Rattle.std.proofs.Common.{arith, refl}
use Rattle.duk_config.proofs.KeysAreLoaded.{zone_loaded}
use Rattle.duk_config.proofs.hsm.load_zone_key.Goals as goal

pub returns : goal.returns
returns g c =
    let wrapped = rw (← c.as_slice.ensures.value) at c.wrap_zone_key-block.ensures in
    let both =
    zone_loaded c.args.hsm.now c.load_zone.new.self c.args.lmk.now c.as_slice.result.now _ _ c.load_zone.result c.requires.lmk c.requires.zone wrapped
    (record { usage = refl; algorithm = refl; mode = (1, omega arith, refl) })
    c.load_zone.ensures.loaded
    c.load_zone.ensures.refused in
    record { ok = both.0; keys = both.1 }
