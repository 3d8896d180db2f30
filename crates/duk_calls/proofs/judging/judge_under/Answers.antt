use Rattle.std.proofs.Common.{◌≡◌, ◌∙◌, IsTrue, Some, ap, rules, subst, sym}
use Rattle.std.specs.Option.{option_map}
use Rattle.duk_host.specs.Table.{CardTable, table_decision}
use Rattle.duk_tdes.specs.KeyBytes.{bytes_of}
use Rattle.duk_calls.specs.Answer.{part_at}
use Rattle.duk_calls.specs.Hosts.{SaysJudgement}
use Rattle.duk_calls.specs.Requests.{front_frame}
use Rattle.duk_calls.proofs.judging.judge_under.Goals as goal

pub returns : goal.returns
returns g c =
    let keys = c.in-Some.held.hsm in
    let frames = c.args.frames.now in
    let new = c.judge_all.new.judged in
    let are : IsTrue c.are_cards.result = search rules in (
      c.requires.fit,
      record {
        keys = keys;
        zone = bytes_of c.in-Some-zone.zone;
        is_module = c.in-Some.ensures.0;
        zone_is = sym c.in-Some.ensures.1 ∙ ap (option_map bytes_of) c.in-Some-zone.is;
        are_cards = c.are_cards.ensures.0 are;
        each = λ i h.
            subst (λ (table : CardTable). SaysJudgement keys (table_decision table) (front_frame (part_at 64 frames i)) (part_at 64 new i)) c.new-issuer.ensures (c.judge_all.ensures.each i h);
        behind = c.judge_all.ensures.behind;
      },
    )
