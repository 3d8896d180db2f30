use Rattle.std.proofs.Common.{refl, ap, ◌∙◌}
use Rattle.duk_des.specs.Bits.{bytes_of_bits}
use Rattle.duk_des.proofs.PermutationsByExchanges.{turned, exchanged_words, final_words}
use Rattle.duk_des.proofs.words.permutations.final_permutation.Goals as goal

pub returns : goal.returns
returns c =
    let by_1 = c.exchange_bits-first.result in
    let by_8 = c.exchange_bits-second.result in
    let by_2 = c.exchange_bits-second-2.result in
    let by_16 = c.exchange_bits-first-2.result in
    let by_4 = c.exchange_bits-first-3.result in
    let e1 = exchanged_words 1 0x55555555 c.args.first c.args.second by_1.0 by_1.1 c.exchange_bits-first.ensures.first c.exchange_bits-first.ensures.second refl in
    let e2 = exchanged_words 8 0x00ff00ff by_1.1 by_1.0 by_8.0 by_8.1 c.exchange_bits-second.ensures.first c.exchange_bits-second.ensures.second (ap turned e1) in
    let e3 = exchanged_words 2 0x33333333 by_8.0 by_8.1 by_2.0 by_2.1 c.exchange_bits-second-2.ensures.first c.exchange_bits-second-2.ensures.second e2 in
    let e4 = exchanged_words 16 0x0000ffff by_2.1 by_2.0 by_16.0 by_16.1 c.exchange_bits-first-2.ensures.first c.exchange_bits-first-2.ensures.second (ap turned e3) in
    let e5 = exchanged_words 4 0x0f0f0f0f by_16.0 by_16.1 by_4.0 by_4.1 c.exchange_bits-first-3.ensures.first c.exchange_bits-first-3.ensures.second e4 in
    c.block_of.ensures ∙ ap (bytes_of_bits 8) (final_words c.args.first c.args.second by_4.0 by_4.1 e5)
