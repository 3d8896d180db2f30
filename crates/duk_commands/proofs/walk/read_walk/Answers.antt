use Rattle.std.proofs.Common.{refl, rules}
use Rattle.duk_commands.specs.Walk.{Asked}
use Rattle.duk_commands.proofs.walk.read_walk.Goals as goal

pub returns-clause-loaded : goal.returns-clause-loaded
returns-clause-loaded c =
    let asked : Asked = record { initial = c.initial_key.result; iksn = c.in_ok-iksn.iksn; skip = c.in_ok-skip.skip; count = c.in_ok-count.count } in (
      asked,
      record {
        key = c.in_ok-key.key;
        key_read = search rules;
        iksn_read = search rules;
        initial = c.initial_key.ensures;
        count_read = search rules;
        skip_read = search rules;
      },
      record { same_initial = refl; same_iksn = refl; same_skip = refl; same_count = refl },
    )
