use Rattle.std.proofs.Common.{◌≡◌, arith, inl, inr, subst, sym}
use Rattle.duk_hsm.specs.Load.{IsZoneLoaded, LoadBdkRefused}
use Rattle.duk_tdes.specs.Tdes.{IsTdesKey}
use Rattle.duk_calls.specs.Modules.{block_in, prefix_in}
use Rattle.duk_calls.proofs.Loading.{Readings, bdk_not_refused}
use Rattle.duk_calls.proofs.module_keys.load_entry.Goals as goal

pub returns-in-Err-clause-refused : goal.returns-in-Err-clause-refused
returns-in-Err-clause-refused g c = λ same keys loaded.
    let readings : Readings = record { one = c.one_reading.ensures; none = c.no_fault.ensures } in
    let hsm = c.args.held.now.hsm in
    let entry = c.args.entry.now in
    let why = c.in-Err.field-0 in
    let prefix : c.array_of-prefix.result ≡ prefix_in entry = c.array_of-prefix.ensures.bytes in
    elim loaded [
      | inl is ↦
          bdk_not_refused readings hsm keys (prefix_in entry) (block_in entry) why (subst IsTdesKey (sym c.requires.lmk) c.tdes_key.ensures.key) is.1
          (subst (λ prefix. LoadBdkRefused hsm prefix (block_in entry) why) prefix
          (subst (λ block. LoadBdkRefused hsm c.array_of-prefix.result block why) c.block_in-block.ensures c.in-Err.ensures.refused))
      | inr is ↦ absurd (omega (arith, is.0, c.in-0.is))
    ]

pub returns-in-1-clause-refused : goal.returns-in-1-clause-refused
returns-in-1-clause-refused g c = λ failed keys loaded.
    elim loaded [
      | inl is ↦ absurd (omega (arith, is.0, c.in-1.is))
      | inr is ↦ c.load_zone.ensures.refused failed keys (subst (λ block. IsZoneLoaded c.args.held.now.hsm block keys) (sym c.block_in-block.ensures) is.1)
    ]
