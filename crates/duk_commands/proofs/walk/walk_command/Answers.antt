use Rattle.std.proofs.Common.{◌≤◌, inr, refl, subst}
use Rattle.duk_commands.specs.Walk.{IsPassed, number_line}
use Rattle.duk_commands.proofs.WalkedText.{as_asked}
use Rattle.duk_commands.proofs.walk.walk_command.Goals as goal

pub returns-in-Ok-clause-done : goal.returns-in-Ok-clause-done
returns-in-Ok-clause-done g c =
    let loaded = c.in_ok-walk.ensures.loaded in
    let asked = loaded.0 in
    let walk = c.in_ok-walk.walk in
    let has = c.in-Ok.ensures.written in
    let passed = as_asked asked c.args.alone walk.initial walk.iksn walk.skip walk.count walk.count has.0 loaded.2 has.1 in
    let line = number_line asked.initial asked.iksn c.args.alone in
    record {
      text = has.0;
      asked = record {
        asked = asked;
        read = loaded.1;
        lines = subst (λ n. IsPassed line 1 asked.skip n has.0) loaded.2.same_count passed;
      };
      written = has.2;
    }

pub returns-in-Err-clause-not_done : goal.returns-in-Err-clause-not_done
returns-in-Err-clause-not_done g c =
    let loaded = c.in_ok-walk.ensures.loaded in
    let asked = loaded.0 in
    let walk = c.in_ok-walk.walk in
    let has = c.in-Err.ensures.cut in
    inr (
      refl,
      record {
        text = has.1;
        asked = record {
          asked = asked;
          reached = has.0;
          read = loaded.1;
          not_more = subst (λ n. has.0 ≤ n) loaded.2.same_count has.2;
          lines = as_asked asked c.args.alone walk.initial walk.iksn walk.skip walk.count has.0 has.1 loaded.2 has.3;
        };
        cut = has.4;
      },
    )
