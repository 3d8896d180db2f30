use Rattle.std.proofs.Common.{refl, sym, ◌∙◌}
use Rattle.duk_config.specs.declared.fault.ConfigKey.TheVariants.{Zone, Loading}
use Rattle.duk_config.proofs.KeysInOrder.{is_there, next_right, on_found}
use Rattle.duk_config.proofs.read.keys.read_zone.Goals as goal

pub returns-clause-right : goal.returns-clause-right
returns-clause-right c =
    on_found _ c.ok_or.result _ c.ok_or.ensures.ok_part
    (λ found is. next_right _ Zone Loading refl c.requires (is_there _ _ (sym is ∙ c.tdes_key_at.ensures)))
