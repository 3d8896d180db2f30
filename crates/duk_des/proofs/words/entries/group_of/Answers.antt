use Rattle.std.proofs.Common.{◌+◌, ◌-◌, ◌/◌, ◌^◌, ◌≡◌, sym, ap, ◌∙◌, arith}
use Rattle.std.proofs.lemmas.Nat.{and_mask}
use Rattle.duk_des.specs.Bits.{bits_of}
use Rattle.duk_des.specs.Words.{word_bits}
use Rattle.duk_des.proofs.BitsOfWords.{bits_of-low, bits_of-part}
use Rattle.duk_des.proofs.words.entries.group_of.Goals as goal

pub returns-clause-bits : goal.returns-clause-bits
unfolding word_bits
returns-clause-bits c =
    let shifted = c.args.word / 2 ^ c.args.after in
    let total : 32 ≡ 26 - c.args.after + (6 + c.args.after) = omega arith in
    ap (bits_of 6) (and_mask shifted 6) ∙ bits_of-low 6 shifted ∙ sym (bits_of-part (26 - c.args.after) 6 c.args.after 32 c.args.word total)
