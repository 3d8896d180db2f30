use Rattle.duk_block.specs.Derived.{encryption_usage, mac_usage}
use Rattle.duk_block.proofs.DerivedIsKey.{IsTdesKey-derived_key, encryption_usage_fits, mac_usage_fits}
use Rattle.duk_block.proofs.laws.derived_keys.Goals as goal

pub returns-clause-encryption : goal.returns-clause-encryption
returns-clause-encryption c = λ key is_key.
    IsTdesKey-derived_key encryption_usage key (λ message fit. c.cmac_is_a_block.ensures key message is_key fit) is_key encryption_usage_fits

pub returns-clause-mac : goal.returns-clause-mac
returns-clause-mac c = λ key is_key.
    IsTdesKey-derived_key mac_usage key (λ message fit. c.cmac_is_a_block.ensures key message is_key fit) is_key mac_usage_fits
