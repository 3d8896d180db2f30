use Rattle.std.proofs.Common.{rules, refl, subst, ◌≡◌}
use Rattle.duk_block.specs.Faults.{IsFirstFault}
use Rattle.duk_tdes.specs.KeyBytes.{bytes_of}
use Rattle.duk_calls.proofs.optional.unwrap_optional.Goals as goal

pub returns-in-Err : goal.returns-in-Err
returns-in-Err c =
    let kbpk_is : bytes_of c.in_ok-kbpk.kbpk ≡ c.args.kbpk.now = search rules in
    ((search rules, subst (λ kbpk. IsFirstFault c.args.text.now kbpk c.in-Err.fault) kbpk_is c.in-Err.ensures.refused), refl)
