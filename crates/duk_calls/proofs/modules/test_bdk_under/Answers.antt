use Rattle.std.proofs.Common.{subst, sym}
use Rattle.duk_hsm.specs.Load.{LoadBdkRefused}
use Rattle.duk_calls.specs.Modules.{IsModule}
use Rattle.duk_calls.specs.inner.Modules.{MayNotBeLoaded}
use Rattle.duk_calls.proofs.Entries.{room_for_bdk}
use Rattle.duk_calls.proofs.Loading.{reason_in}
use Rattle.duk_calls.proofs.modules.test_bdk_under.Goals as goal

pub returns-in-Ok-clause-loads : goal.returns-in-Ok-clause-loads
returns-in-Ok-clause-loads g c =
    let image = c.args.image.now in
    let block = c.args.block.now in
    let before = c.in-Some.held.hsm in
    let after = c.load_bdk.new.self in
    let is : IsModule image before = c.in-Some.ensures.0 in
    record {
      before = before;
      after = after;
      is_module = is;
      loads = c.in-Ok.ensures.loaded;
      room = room_for_bdk image before after c.args.prefix block is c.in-Ok.ensures.loaded;
      fits = c.in-Ok.ensures.loaded.wrapped.wraps.limits.most;
    }

pub returns-in-Err-clause-refused : goal.returns-in-Err-clause-refused
returns-in-Err-clause-refused g c =
    subst (MayNotBeLoaded (λ keys. LoadBdkRefused keys c.args.prefix c.args.block.now) c.args.image.now) (sym c.fault_of_hsm.ensures)
    (reason_in (λ keys. LoadBdkRefused keys c.args.prefix c.args.block.now) c.args.image.now c.in-Some.held.hsm c.in-Err.why c.in-Some.ensures.0 c.in-Err.ensures.refused)
