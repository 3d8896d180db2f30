use Rattle.duk_store.proofs.LogRecords.{kept_is_log, log_is_kept}
use Rattle.duk_store.proofs.laws.log_lists.Goals as goal

pub returns : goal.returns
returns c = λ bytes numbers. (kept_is_log bytes numbers, log_is_kept bytes numbers)
