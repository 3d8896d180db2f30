use Rattle.std.proofs.Common.{◌≡◌, ◌∙◌, List, ℕ, ap, subst}
use Rattle.duk_hsm.specs.Keys.{HsmKeys}
use Rattle.duk_calls.specs.Answer.{part_at}
use Rattle.duk_calls.specs.Hosts.{SaysAnswer, candidate_bytes, decision_of, marked, padded}
use Rattle.duk_calls.specs.Requests.{front_frame}
use Rattle.duk_calls.proofs.laws.two_calls.Goals as goal

pub returns : goal.returns
returns c = λ image other cards frames old judged said others new i j candidate settled fit judging has answering within is place of marks.
    let keys = judging.keys in
    let same : answering.keys ≡ keys = c.one_set_of_keys.ensures other answering.keys keys fit answering.is_module has in
    let answer : List ℕ = part_at 64 new j in
    let bytes : List ℕ = padded (candidate_bytes candidate) in
    let says : SaysAnswer keys (part_at 64 said j) answer = subst (λ (keys : HsmKeys). SaysAnswer keys (part_at 64 said j) answer) same (answering.each j within) in
    let marked_so : part_at 64 said j ≡ marked settled bytes = marks ∙ ap (marked settled) place in
    c.answers.ensures.answered keys (decision_of judging.zone cards) (front_frame (part_at 64 frames i)) answer candidate settled is of
    (subst (λ (said : List ℕ). SaysAnswer keys said answer) marked_so says)
