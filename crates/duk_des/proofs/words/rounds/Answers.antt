use Rattle.std.proofs.Common.{◌≡◌, map, arith, ap, ◌∙◌}
use Rattle.duk_des.specs.Des.{Halves, rounds}
use Rattle.duk_des.specs.inner.Words.{key_bits}
use Rattle.duk_des.proofs.RoundsOfWords.{halves_of, one_word_round, no_word_round}
use Rattle.duk_des.proofs.words.rounds.Goals as goal

-- the sixteen rounds, from the last to the first
pub returns : goal.returns
returns c =
    let keys = c.args.keys.now in
    let last : Halves = halves_of c.next_half-next-15.result c.next_half-next-16.result in
    let all : last ≡ rounds (map key_bits keys) (halves_of c.args.left c.args.right) =
    no_word_round keys last c.told-keys
    ∙ one_word_round keys 15 c.next_half-next-14.result c.next_half-next-15.result c.next_half-next-16.result c.told-keys (omega arith) c.next_half-next-16.ensures
    ∙ one_word_round keys 14 c.next_half-next-13.result c.next_half-next-14.result c.next_half-next-15.result c.told-keys (omega arith) c.next_half-next-15.ensures
    ∙ one_word_round keys 13 c.next_half-next-12.result c.next_half-next-13.result c.next_half-next-14.result c.told-keys (omega arith) c.next_half-next-14.ensures
    ∙ one_word_round keys 12 c.next_half-next-11.result c.next_half-next-12.result c.next_half-next-13.result c.told-keys (omega arith) c.next_half-next-13.ensures
    ∙ one_word_round keys 11 c.next_half-next-10.result c.next_half-next-11.result c.next_half-next-12.result c.told-keys (omega arith) c.next_half-next-12.ensures
    ∙ one_word_round keys 10 c.next_half-next-9.result c.next_half-next-10.result c.next_half-next-11.result c.told-keys (omega arith) c.next_half-next-11.ensures
    ∙ one_word_round keys 9 c.next_half-next-8.result c.next_half-next-9.result c.next_half-next-10.result c.told-keys (omega arith) c.next_half-next-10.ensures
    ∙ one_word_round keys 8 c.next_half-next-7.result c.next_half-next-8.result c.next_half-next-9.result c.told-keys (omega arith) c.next_half-next-9.ensures
    ∙ one_word_round keys 7 c.next_half-next-6.result c.next_half-next-7.result c.next_half-next-8.result c.told-keys (omega arith) c.next_half-next-8.ensures
    ∙ one_word_round keys 6 c.next_half-next-5.result c.next_half-next-6.result c.next_half-next-7.result c.told-keys (omega arith) c.next_half-next-7.ensures
    ∙ one_word_round keys 5 c.next_half-next-4.result c.next_half-next-5.result c.next_half-next-6.result c.told-keys (omega arith) c.next_half-next-6.ensures
    ∙ one_word_round keys 4 c.next_half-next-3.result c.next_half-next-4.result c.next_half-next-5.result c.told-keys (omega arith) c.next_half-next-5.ensures
    ∙ one_word_round keys 3 c.next_half-next-2.result c.next_half-next-3.result c.next_half-next-4.result c.told-keys (omega arith) c.next_half-next-4.ensures
    ∙ one_word_round keys 2 c.next_half-next.result c.next_half-next-2.result c.next_half-next-3.result c.told-keys (omega arith) c.next_half-next-3.ensures
    ∙ one_word_round keys 1 c.args.right c.next_half-next.result c.next_half-next-2.result c.told-keys (omega arith) c.next_half-next-2.ensures
    ∙ one_word_round keys 0 c.args.left c.args.right c.next_half-next.result c.told-keys (omega arith) c.next_half-next.ensures in
    record { left = ap (λ halves. halves.left) all; right = ap (λ halves. halves.right) all }
