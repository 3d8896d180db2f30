use Rattle.std.proofs.Common.{map, reverse, ap, ◌∙◌}
use Rattle.duk_des.specs.Bits.{permute, bits_of_bytes, bytes_of_bits}
use Rattle.duk_des.specs.Des.{rounds}
use Rattle.duk_des.specs.Tables.{initial_places}
use Rattle.duk_des.specs.inner.Words.{key_bits}
use Rattle.duk_des.proofs.DecipheringUndoes.{split}
use Rattle.duk_des.proofs.RoundsOfWords.{halves_of}
use Rattle.duk_des.proofs.SideBySide.{both}
use Rattle.duk_des.proofs.ThreePasses.{are_halves, three_passes_of_halves}
use Rattle.duk_des.proofs.words.crypt_thrice_both.Goals as goal

pub returns-clause-first : goal.returns-clause-first
returns-clause-first c =
    let first = map key_bits c.args.first.now in
    let second = reverse (map key_bits c.args.second.now) in
    let block = bits_of_bytes c.args.block.now in
    c.final_permutation.ensures
    ∙ ap (bytes_of_bits 8)
    (three_passes_of_halves first second first block _ _ _ _ _ _ _ _
    (are_halves _ _ (split (permute initial_places block)) c.initial_permutation-start.ensures.left c.initial_permutation-start.ensures.right)
    c.rounds_of_both.ensures.first
    (c.rounds_of_both_backwards.ensures.first ∙ ap (rounds second) (both halves_of c.exchange.ensures.left c.exchange.ensures.right))
    (c.rounds_of_both-2.ensures.first ∙ ap (rounds first) (both halves_of c.exchange-3.ensures.left c.exchange-3.ensures.right)))

pub returns-clause-second : goal.returns-clause-second
returns-clause-second c =
    let first = map key_bits c.args.other_first.now in
    let second = reverse (map key_bits c.args.other_second.now) in
    let block = bits_of_bytes c.args.block.now in
    c.final_permutation-2.ensures
    ∙ ap (bytes_of_bits 8)
    (three_passes_of_halves first second first block _ _ _ _ _ _ _ _
    (are_halves _ _ (split (permute initial_places block)) c.initial_permutation-start.ensures.left c.initial_permutation-start.ensures.right)
    c.rounds_of_both.ensures.second
    (c.rounds_of_both_backwards.ensures.second ∙ ap (rounds second) (both halves_of c.exchange-2.ensures.left c.exchange-2.ensures.right))
    (c.rounds_of_both-2.ensures.second ∙ ap (rounds first) (both halves_of c.exchange-4.ensures.left c.exchange-4.ensures.right)))
