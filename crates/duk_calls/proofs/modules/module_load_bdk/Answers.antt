use Rattle.std.proofs.Common.{◌≡◌, length, refl, rules, subst}
use Rattle.duk_hsm.specs.Load.{IsBdkLoaded, LoadBdkRefused}
use Rattle.duk_calls.specs.Modules.{entry_bytes}
use Rattle.duk_calls.specs.inner.Modules.{IsAppended, MayBeLoaded, MayNotBeLoaded}
use Rattle.duk_calls.proofs.Entries.{module_with_bdk}
use Rattle.duk_calls.proofs.Loading.{refused_so}
use Rattle.duk_calls.proofs.modules.module_load_bdk.Goals as goal

pub returns-in-Ok : goal.returns-in-Ok
returns-in-Ok c =
    let image = c.args.image.now in
    let prefix = c.args.prefix.now in
    let block = c.args.block.now in
    let size : length prefix ≡ 5 = search rules in
    let same : c.array_of.result ≡ prefix = c.array_of.ensures.bytes in
    let may : MayBeLoaded (λ before after. IsBdkLoaded before prefix block after) image block =
    subst (λ prefix. MayBeLoaded (λ before after. IsBdkLoaded before prefix block after) image block) same c.in-Ok.ensures.loads in
    let appended : IsAppended (entry_bytes 0 prefix block) image c.append.new.image =
    subst (λ prefix. IsAppended (entry_bytes 0 prefix block) image c.append.new.image) c.array_of-in-Ok.ensures.bytes c.append.ensures in (
      search rules,
      record {
        before = may.before;
        after = may.after;
        was_module = may.is_module;
        is_module = module_with_bdk image c.append.new.image prefix block may.before may.after may.is_module size may.fits appended may.loads;
        loads = may.loads;
        image_is = appended.image_is;
      },
    )

pub returns-in-Err : goal.returns-in-Err
returns-in-Err c =
    let image = c.args.image.now in
    let prefix = c.args.prefix.now in
    let block = c.args.block.now in (
      refused_so _ (λ keys. LoadBdkRefused keys prefix block) image c.in-Err.why (search rules)
          (subst (λ prefix. MayNotBeLoaded (λ keys. LoadBdkRefused keys prefix block) image c.in-Err.why) c.array_of.ensures.bytes c.in-Err.ensures.refused),
      refl,
    )
