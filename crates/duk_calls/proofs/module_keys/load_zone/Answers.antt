use Rattle.std.proofs.Common.{◌∙◌, Some, ap, subst, sym}
use Rattle.duk_block.specs.KeyBlock.{WrapsFor}
use Rattle.duk_block.specs.KeyUse.{IsKeyFor}
use Rattle.duk_block.specs.declared.key_use.KeyUse.TheVariants.{PinEncryption}
use Rattle.duk_hsm.specs.Keys.{HsmKeys}
use Rattle.duk_tdes.specs.KeyBytes.{bytes_of}
use Rattle.duk_tdes.specs.Tdes.{IsTdesKey}
use Rattle.duk_calls.proofs.Loading.{Readings, no_refusal, one_key, zone_not_refused}
use Rattle.duk_calls.proofs.module_keys.load_zone.Goals as goal

pub returns-in_default-clause-refused : goal.returns-in_default-clause-refused
returns-in_default-clause-refused g c = λ same keys loaded.
    let readings : Readings = record { one = c.one_reading.ensures; none = c.no_fault.ensures } in
    no_refusal readings (IsKeyFor PinEncryption) c.args.lmk.now c.args.block.now loaded.zone c.in_default.field-0 c.tdes_key.ensures.key
    (subst (λ lmk. WrapsFor (IsKeyFor PinEncryption) lmk c.args.block.now loaded.zone) c.requires.lmk loaded.wrapped) c.in_default.ensures.refused

pub returns-in-Ok-load_zone-clause-zone : goal.returns-in-Ok-load_zone-clause-zone
returns-in-Ok-load_zone-clause-zone g c = λ done.
    let readings : Readings = record { one = c.one_reading.ensures; none = c.no_fault.ensures } in
    let loaded = c.in-Ok-load_zone.ensures.loaded in
    ap Some (one_key readings (IsKeyFor PinEncryption) c.args.lmk.now c.args.block.now (bytes_of c.in-Ok.zone) loaded.zone c.tdes_key.ensures.key c.in-Ok.ensures.found
    (subst (λ lmk. WrapsFor (IsKeyFor PinEncryption) lmk c.args.block.now loaded.zone) c.requires.lmk loaded.wrapped))
    ∙ sym (ap (λ (keys : HsmKeys). keys.zone) loaded.keys_are)

pub returns-in-Err-clause-refused : goal.returns-in-Err-clause-refused
returns-in-Err-clause-refused g c = λ same keys loaded.
    let readings : Readings = record { one = c.one_reading.ensures; none = c.no_fault.ensures } in
    zone_not_refused readings c.args.held.now.hsm keys c.args.block.now c.in-Err.field-0 (subst IsTdesKey (sym c.requires.lmk) c.tdes_key.ensures.key) loaded c.in-Err.ensures.refused
