use Rattle.std.proofs.Common.{◌≡◌, ◌-◌, ◌++◌, codes, length, take, drop, ap, subst, ◌∙◌, append_assoc, arith}
use Rattle.std.proofs.lemmas.List.{take_all}
use Rattle.std.specs.List.{AllPass}
use Rattle.hex.specs.Hex.{is_hex_digit}
use Rattle.duk_commands.specs.Lines.{text_line}
use Rattle.duk_show.proofs.block.push_sealed.Goals as goal

pub returns-clause-lines : goal.returns-clause-lines
returns-clause-lines c =
    let s = c.args.sealed_part.now in
    let n = length s - 16 in
    let first = text_line (codes "ciphertext") (take n s) in
    let second = text_line (codes "mac") (drop n s) in
    let back : c.split_at.result.1.now ≡ drop n s = c.split_at.ensures.back in
    c.push_text_line-2.ensures.line ∙ ap (λ part. c.push_text_line.new.lines.items ++ text_line (codes "mac") part) back
    ∙ ap (λ front. front ++ second) (c.push_text_line.ensures.line ∙ ap (λ part. c.args.lines.now.items ++ text_line (codes "ciphertext") part) c.split_at.ensures.front)
    ∙ append_assoc c.args.lines.now.items first second

pub returns-clause-is : goal.returns-clause-is
returns-clause-is c =
    let s = c.args.sealed_part.now in
    let all : take c.first_no_digit-place.result s ≡ s = take_all c.first_no_digit-place.result s c.if-place-sealed_part.false in (
      record { least = c.if-sealed_part-lt64.false; whole = omega (arith, c.if-sealed_part-ne0.false) },
      subst (AllPass is_hex_digit) all c.first_no_digit-place.ensures.digits_before,
    )
