use Rattle.std.proofs.Common.{arith, ◌∙◌}
use Rattle.duk_des.proofs.RoundsOfWords.{halves_of, one_round_backwards, no_round_backwards}
use Rattle.duk_des.proofs.words.rounds_of_both_backwards.Goals as goal

-- the sixteen rounds of the first block, from the last to the first, each with the key that stands as far from the other end
pub returns-clause-first : goal.returns-clause-first
returns-clause-first c =
    no_round_backwards c.args.keys.now (halves_of c.next_half-next-15.result c.next_half-next-16.result) c.told-keys
    ∙ one_round_backwards c.args.keys.now 15 c.next_half-next-14.result c.next_half-next-15.result c.next_half-next-16.result c.told-keys (omega arith) c.next_half-next-16.ensures
    ∙ one_round_backwards c.args.keys.now 14 c.next_half-next-13.result c.next_half-next-14.result c.next_half-next-15.result c.told-keys (omega arith) c.next_half-next-15.ensures
    ∙ one_round_backwards c.args.keys.now 13 c.next_half-next-12.result c.next_half-next-13.result c.next_half-next-14.result c.told-keys (omega arith) c.next_half-next-14.ensures
    ∙ one_round_backwards c.args.keys.now 12 c.next_half-next-11.result c.next_half-next-12.result c.next_half-next-13.result c.told-keys (omega arith) c.next_half-next-13.ensures
    ∙ one_round_backwards c.args.keys.now 11 c.next_half-next-10.result c.next_half-next-11.result c.next_half-next-12.result c.told-keys (omega arith) c.next_half-next-12.ensures
    ∙ one_round_backwards c.args.keys.now 10 c.next_half-next-9.result c.next_half-next-10.result c.next_half-next-11.result c.told-keys (omega arith) c.next_half-next-11.ensures
    ∙ one_round_backwards c.args.keys.now 9 c.next_half-next-8.result c.next_half-next-9.result c.next_half-next-10.result c.told-keys (omega arith) c.next_half-next-10.ensures
    ∙ one_round_backwards c.args.keys.now 8 c.next_half-next-7.result c.next_half-next-8.result c.next_half-next-9.result c.told-keys (omega arith) c.next_half-next-9.ensures
    ∙ one_round_backwards c.args.keys.now 7 c.next_half-next-6.result c.next_half-next-7.result c.next_half-next-8.result c.told-keys (omega arith) c.next_half-next-8.ensures
    ∙ one_round_backwards c.args.keys.now 6 c.next_half-next-5.result c.next_half-next-6.result c.next_half-next-7.result c.told-keys (omega arith) c.next_half-next-7.ensures
    ∙ one_round_backwards c.args.keys.now 5 c.next_half-next-4.result c.next_half-next-5.result c.next_half-next-6.result c.told-keys (omega arith) c.next_half-next-6.ensures
    ∙ one_round_backwards c.args.keys.now 4 c.next_half-next-3.result c.next_half-next-4.result c.next_half-next-5.result c.told-keys (omega arith) c.next_half-next-5.ensures
    ∙ one_round_backwards c.args.keys.now 3 c.next_half-next-2.result c.next_half-next-3.result c.next_half-next-4.result c.told-keys (omega arith) c.next_half-next-4.ensures
    ∙ one_round_backwards c.args.keys.now 2 c.next_half-next.result c.next_half-next-2.result c.next_half-next-3.result c.told-keys (omega arith) c.next_half-next-3.ensures
    ∙ one_round_backwards c.args.keys.now 1 c.args.halves.1 c.next_half-next.result c.next_half-next-2.result c.told-keys (omega arith) c.next_half-next-2.ensures
    ∙ one_round_backwards c.args.keys.now 0 c.args.halves.0 c.args.halves.1 c.next_half-next.result c.told-keys (omega arith) c.next_half-next.ensures

-- and those of the second
pub returns-clause-second : goal.returns-clause-second
returns-clause-second c =
    no_round_backwards c.args.other_keys.now (halves_of c.next_half-other-15.result c.next_half-other-16.result) c.told-other_keys
    ∙ one_round_backwards c.args.other_keys.now 15 c.next_half-other-14.result c.next_half-other-15.result c.next_half-other-16.result c.told-other_keys (omega arith) c.next_half-other-16.ensures
    ∙ one_round_backwards c.args.other_keys.now 14 c.next_half-other-13.result c.next_half-other-14.result c.next_half-other-15.result c.told-other_keys (omega arith) c.next_half-other-15.ensures
    ∙ one_round_backwards c.args.other_keys.now 13 c.next_half-other-12.result c.next_half-other-13.result c.next_half-other-14.result c.told-other_keys (omega arith) c.next_half-other-14.ensures
    ∙ one_round_backwards c.args.other_keys.now 12 c.next_half-other-11.result c.next_half-other-12.result c.next_half-other-13.result c.told-other_keys (omega arith) c.next_half-other-13.ensures
    ∙ one_round_backwards c.args.other_keys.now 11 c.next_half-other-10.result c.next_half-other-11.result c.next_half-other-12.result c.told-other_keys (omega arith) c.next_half-other-12.ensures
    ∙ one_round_backwards c.args.other_keys.now 10 c.next_half-other-9.result c.next_half-other-10.result c.next_half-other-11.result c.told-other_keys (omega arith) c.next_half-other-11.ensures
    ∙ one_round_backwards c.args.other_keys.now 9 c.next_half-other-8.result c.next_half-other-9.result c.next_half-other-10.result c.told-other_keys (omega arith) c.next_half-other-10.ensures
    ∙ one_round_backwards c.args.other_keys.now 8 c.next_half-other-7.result c.next_half-other-8.result c.next_half-other-9.result c.told-other_keys (omega arith) c.next_half-other-9.ensures
    ∙ one_round_backwards c.args.other_keys.now 7 c.next_half-other-6.result c.next_half-other-7.result c.next_half-other-8.result c.told-other_keys (omega arith) c.next_half-other-8.ensures
    ∙ one_round_backwards c.args.other_keys.now 6 c.next_half-other-5.result c.next_half-other-6.result c.next_half-other-7.result c.told-other_keys (omega arith) c.next_half-other-7.ensures
    ∙ one_round_backwards c.args.other_keys.now 5 c.next_half-other-4.result c.next_half-other-5.result c.next_half-other-6.result c.told-other_keys (omega arith) c.next_half-other-6.ensures
    ∙ one_round_backwards c.args.other_keys.now 4 c.next_half-other-3.result c.next_half-other-4.result c.next_half-other-5.result c.told-other_keys (omega arith) c.next_half-other-5.ensures
    ∙ one_round_backwards c.args.other_keys.now 3 c.next_half-other-2.result c.next_half-other-3.result c.next_half-other-4.result c.told-other_keys (omega arith) c.next_half-other-4.ensures
    ∙ one_round_backwards c.args.other_keys.now 2 c.next_half-other.result c.next_half-other-2.result c.next_half-other-3.result c.told-other_keys (omega arith) c.next_half-other-3.ensures
    ∙ one_round_backwards c.args.other_keys.now 1 c.args.other_halves.1 c.next_half-other.result c.next_half-other-2.result c.told-other_keys (omega arith) c.next_half-other-2.ensures
    ∙ one_round_backwards c.args.other_keys.now 0 c.args.other_halves.0 c.args.other_halves.1 c.next_half-other.result c.told-other_keys (omega arith) c.next_half-other.ensures
