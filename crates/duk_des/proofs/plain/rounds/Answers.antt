use Rattle.std.proofs.Common.{ap, sym, ◌∙◌, arith}
use Rattle.duk_des.proofs.OneMoreRound.{one_round, no_round}
use Rattle.duk_des.proofs.plain.rounds.Goals as goal

pub loop-key-preserved : goal.loop-key-preserved
loop-key-preserved c =
    one_round c.args.keys.now c.loop-key.key-index c.loop-key.left c.loop-key.right (omega arith) c.cipher_function.ensures c.xor-next.ensures
    ∙ c.loop-key.invariant

pub returns : goal.returns
returns c =
    let all = sym (no_round c.args.keys.now c.loop-key.key-index _ (omega arith)) ∙ c.loop-key.invariant in
    record { left = ap (λ halves. halves.left) all; right = ap (λ halves. halves.right) all }
