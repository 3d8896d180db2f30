use Rattle.std.proofs.Common.{refl, sym, ◌∙◌}
use Rattle.duk_config.specs.declared.fault.ConfigKey.TheVariants.{Log, Stores}
use Rattle.duk_config.proofs.KeysInOrder.{is_there, next_right, on_found}
use Rattle.duk_config.proofs.read.keys.read_log.Goals as goal

pub returns-clause-right : goal.returns-clause-right
returns-clause-right c =
    on_found _ c.ok_or.result _ c.ok_or.ensures.ok_part
    (λ found is. next_right _ Log Stores refl c.requires (is_there _ _ (sym is ∙ c.number_at.ensures.value)))
