use Rattle.std.proofs.Common.{[], ◌∷◌, refl, rules}
use Rattle.duk_hsm.specs.Load.{LoadZoneRefused}
use Rattle.duk_calls.proofs.Entries.{module_with_zone}
use Rattle.duk_calls.proofs.Loading.{refused_so}
use Rattle.duk_calls.proofs.modules.module_load_zone.Goals as goal

pub returns-in-Ok : goal.returns-in-Ok
returns-in-Ok c =
    let image = c.args.image.now in
    let block = c.args.block.now in
    let may = c.in-Ok.ensures.loads in (
      search rules,
      record {
        before = may.before;
        after = may.after;
        was_module = may.is_module;
        is_module = module_with_zone image c.append.new.image (0 ∷ 0 ∷ 0 ∷ 0 ∷ 0 ∷ []) block may.before may.after may.is_module refl may.fits c.append.ensures may.loads;
        loads = may.loads;
        image_is = c.append.ensures.image_is;
      },
    )

pub returns-in-Err : goal.returns-in-Err
returns-in-Err c =
    (refused_so _ (λ keys. LoadZoneRefused keys c.args.block.now) c.args.image.now c.in-Err.why (search rules) c.in-Err.ensures.refused, refl)
