use Rattle.std.proofs.Common.{◌≡◌, ◌+◌, ◌-◌, false, drop, get_or, inl, inr, ap, ◌∙◌, arith}
use Rattle.std.proofs.lemmas.Bool.{cases_lt}
use Rattle.std.proofs.lemmas.List.{get_or-take, get_or-drop}
use Rattle.duk_lanes.proofs.LanesOfPairs.{first_lane, second_lane}
use Rattle.duk_lanes.proofs.wide.word_of_flags.Goals as goal

pub returns : goal.returns
returns c i within =
    let flags = c.args.flags.now in
    elim (cases_lt i 64) [
      | inl below ↦ first_lane _ i below ∙ c.half_word.ensures i below ∙ get_or-take 64 flags i false below
      | inr above ↦
          let place : 64 + (i - 64) ≡ i = omega arith in
          second_lane _ i above
          ∙ c.half_word-2.ensures (i - 64) (omega arith)
          ∙ get_or-take 64 (drop 64 flags) (i - 64) false (omega arith)
          ∙ get_or-drop 64 flags (i - 64) false
          ∙ ap (λ k. get_or flags k false) place
    ]
