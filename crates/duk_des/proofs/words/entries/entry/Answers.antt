use Rattle.std.proofs.Common.{◌≡◌, ◌+◌, [], ◌∷◌, get_or, refl, sym, ap, ◌∙◌, arith}
use Rattle.duk_des.specs.Bits.{bits_of}
use Rattle.duk_des.specs.Words.{word_bits, selected}
use Rattle.duk_des.proofs.BoxWords.{all_words, entry_in}
use Rattle.duk_des.proofs.words.entries.entry.Goals as goal

pub returns-in-1 : goal.returns-in-1
returns-in-1 c =
    let here : c.args.x ≡ 0 + c.args.x = omega arith in
    ap (λ i. word_bits (get_or all_words i 0)) here
    ∙ entry_in 0 1 (9 ∷ 17 ∷ 23 ∷ 31 ∷ []) c.args.x c.requires.six_bits refl refl refl (λ n. refl) ∙ sym (ap (λ i. selected i (bits_of 6 c.args.x)) c.in-1.is)

pub returns-in-2 : goal.returns-in-2
returns-in-2 c = entry_in 64 2 (13 ∷ 28 ∷ 2 ∷ 18 ∷ []) c.args.x c.requires.six_bits refl refl refl (λ n. refl) ∙ sym (ap (λ i. selected i (bits_of 6 c.args.x)) c.in-2.is)

pub returns-in-3 : goal.returns-in-3
returns-in-3 c = entry_in 128 3 (24 ∷ 16 ∷ 30 ∷ 6 ∷ []) c.args.x c.requires.six_bits refl refl refl (λ n. refl) ∙ sym (ap (λ i. selected i (bits_of 6 c.args.x)) c.in-3.is)

pub returns-in-4 : goal.returns-in-4
returns-in-4 c = entry_in 192 4 (26 ∷ 20 ∷ 10 ∷ 1 ∷ []) c.args.x c.requires.six_bits refl refl refl (λ n. refl) ∙ sym (ap (λ i. selected i (bits_of 6 c.args.x)) c.in-4.is)

pub returns-in-5 : goal.returns-in-5
returns-in-5 c = entry_in 256 5 (8 ∷ 14 ∷ 25 ∷ 3 ∷ []) c.args.x c.requires.six_bits refl refl refl (λ n. refl) ∙ sym (ap (λ i. selected i (bits_of 6 c.args.x)) c.in-5.is)

pub returns-in-6 : goal.returns-in-6
returns-in-6 c = entry_in 320 6 (4 ∷ 29 ∷ 11 ∷ 19 ∷ []) c.args.x c.requires.six_bits refl refl refl (λ n. refl) ∙ sym (ap (λ i. selected i (bits_of 6 c.args.x)) c.in-6.is)

pub returns-in-7 : goal.returns-in-7
returns-in-7 c = entry_in 384 7 (32 ∷ 12 ∷ 22 ∷ 7 ∷ []) c.args.x c.requires.six_bits refl refl refl (λ n. refl) ∙ sym (ap (λ i. selected i (bits_of 6 c.args.x)) c.in-7.is)

pub returns-in_default : goal.returns-in_default
returns-in_default c =
    let eight : c.args.i ≡ 8 = omega arith in
    entry_in 448 8 (5 ∷ 27 ∷ 15 ∷ 21 ∷ []) c.args.x c.requires.six_bits refl refl refl (λ n. refl) ∙ sym (ap (λ i. selected i (bits_of 6 c.args.x)) eight)
