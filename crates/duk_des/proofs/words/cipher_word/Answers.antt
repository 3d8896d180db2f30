use Rattle.std.proofs.Common.{◌*◌, ◌%◌, ◌^◌, refl, ap, ◌∙◌, arith}
use Rattle.duk_des.specs.Words.{word_bits, selected}
use Rattle.duk_des.proofs.CipherOfWords.{rotated_word, sum_of_words, cipher_of_groups}
use Rattle.duk_des.proofs.words.cipher_word.Goals as goal

pub returns : goal.returns
returns c =
    let right = c.args.right in
    let key = c.args.key.now in
    let odd_rotated = ap word_bits c.rotate_left.ensures ∙ rotated_word 29 3 right (right * 2 ^ 29 % 2 ^ 32) refl c.ranges.right.fits (omega arith) in
    let even_rotated = ap word_bits c.rotate_left-2.ensures ∙ rotated_word 1 31 right (right * 2 ^ 1 % 2 ^ 32) refl c.ranges.right.fits (omega arith) in
    let odd_is = sum_of_words c.rotate_left.result key.odd odd_rotated refl in
    let even_is = sum_of_words c.rotate_left-2.result key.even even_rotated refl in
    sum_of_words _ c.entry-8.result (sum_of_words _ c.entry-7.result (sum_of_words _ c.entry-6.result (sum_of_words _ c.entry-5.result (sum_of_words _ c.entry-4.result (sum_of_words _ c.entry-3.result (sum_of_words _ c.entry-2.result (c.entry.ensures ∙ ap (selected 1) c.group_of.ensures.bits)
    (c.entry-2.ensures ∙ ap (selected 2) c.group_of-2.ensures.bits))
    (c.entry-3.ensures ∙ ap (selected 3) c.group_of-3.ensures.bits))
    (c.entry-4.ensures ∙ ap (selected 4) c.group_of-4.ensures.bits))
    (c.entry-5.ensures ∙ ap (selected 5) c.group_of-5.ensures.bits))
    (c.entry-6.ensures ∙ ap (selected 6) c.group_of-6.ensures.bits))
    (c.entry-7.ensures ∙ ap (selected 7) c.group_of-7.ensures.bits))
    (c.entry-8.ensures ∙ ap (selected 8) c.group_of-8.ensures.bits)
    ∙ cipher_of_groups right _ _ key odd_is even_is
