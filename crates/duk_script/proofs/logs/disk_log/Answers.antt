use Rattle.std.proofs.Common.{◌∙◌, [], ap, subst, sym}
use Rattle.duk_store.specs.DiskLog.{new_disk_log}
use Rattle.duk_store.specs.StoreState.{IsNew}
use Rattle.duk_script.specs.OnDisk.{log_on_disk_meaning}
use Rattle.duk_script.proofs.logs.disk_log.Goals as goal

pub returns-clause-made : goal.returns-clause-made
returns-clause-made c = c.new-2.ensures.log ∙ ap new_disk_log c.in-Ok.ensures.disk

pub returns-clause-new : goal.returns-clause-new
returns-clause-new c = subst (λ log. IsNew (log_on_disk_meaning.state_of log) []) (sym (returns-clause-made c)) (c.new_disk_log.ensures _ c.requires)
