use Rattle.std.proofs.Common.{refl, ap}
use Rattle.duk_des.specs.Bits.{bits_of_bytes}
use Rattle.duk_des.proofs.PermutationsByExchanges.{turned, exchanged_words, initial_words}
use Rattle.duk_des.proofs.words.permutations.initial_permutation.Goals as goal

pub returns : goal.returns
returns c =
    let start = c.halves_of-left.result in
    let by_4 = c.exchange_bits-left.result in
    let by_16 = c.exchange_bits-left-2.result in
    let by_2 = c.exchange_bits-right.result in
    let by_8 = c.exchange_bits-right-2.result in
    let by_1 = c.exchange_bits-left-3.result in
    let e1 = exchanged_words 4 0x0f0f0f0f start.0 start.1 by_4.0 by_4.1 c.exchange_bits-left.ensures.first c.exchange_bits-left.ensures.second refl in
    let e2 = exchanged_words 16 0x0000ffff by_4.0 by_4.1 by_16.0 by_16.1 c.exchange_bits-left-2.ensures.first c.exchange_bits-left-2.ensures.second e1 in
    let e3 = exchanged_words 2 0x33333333 by_16.1 by_16.0 by_2.0 by_2.1 c.exchange_bits-right.ensures.first c.exchange_bits-right.ensures.second (ap turned e2) in
    let e4 = exchanged_words 8 0x00ff00ff by_2.0 by_2.1 by_8.0 by_8.1 c.exchange_bits-right-2.ensures.first c.exchange_bits-right-2.ensures.second e3 in
    let e5 = exchanged_words 1 0x55555555 by_8.1 by_8.0 by_1.0 by_1.1 c.exchange_bits-left-3.ensures.first c.exchange_bits-left-3.ensures.second (ap turned e4) in
    let all = initial_words start.0 start.1 by_1.0 by_1.1 (bits_of_bytes c.args.block.now) c.halves_of-left.ensures e5 in
    record { left = ap (λ pair. pair.first) all; right = ap (λ pair. pair.second) all }
