use Rattle.std.proofs.Common.{arith, refl}
use Rattle.duk_config.proofs.KeysAreLoaded.{bdk_loaded}
use Rattle.duk_config.proofs.hsm.load_base_key.Goals as goal

pub returns : goal.returns
returns g c =
    let wrapped = rw (← c.as_slice.ensures.value) at c.wrap_key-block.ensures.wraps in
    let both =
    bdk_loaded c.args.hsm.now c.load_bdk.new.self c.args.lmk.now c.args.bdk.now.0 c.as_slice.result.now _ c.args.bdk.now.1 c.load_bdk.result c.requires.lmk c.requires.prefix c.requires.slot wrapped
    (record { header_is = record { usage = refl; algorithm = refl; mode = (0, omega arith, refl) }; length_is = c.wrap_key-block.ensures.size })
    c.load_bdk.ensures.loaded
    c.load_bdk.ensures.refused in
    record { ok = both.0; keys = both.1 }
