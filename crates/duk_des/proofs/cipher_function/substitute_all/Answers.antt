use Rattle.std.proofs.Common.{◌≡◌, ℕ, Bool, false, List, take, drop, refl, sym, ap, ◌∙◌}
use Rattle.duk_des.specs.Des.{substitute, substitute_all}
use Rattle.duk_des.specs.Tables.{boxes, box1, box2, box3, box4, box5, box6, box7, box8}
use Rattle.duk_des.proofs.SideBySide.{appended}
use Rattle.duk_des.proofs.LiteralLists.{spelled, is_spelled}
use Rattle.duk_des.proofs.cipher_function.substitute_all.Goals as goal

-- what a box gives of six bits from a place on, where the bits are written out
chosen : (box : List ℕ) (place : ℕ) (bits : List Bool) {four : List Bool} → bits ≡ spelled false 48 0 bits
    → four ≡ substitute box (take 6 (drop place bits)) → four ≡ substitute box (take 6 (drop place (spelled false 48 0 bits)))
chosen box place bits {four} written by_box = by_box ∙ ap (λ v. substitute box (take 6 (drop place v))) written

pub returns : goal.returns
returns c =
    let bits : List Bool = c.args.bits.now in
    let written : bits ≡ spelled false 48 0 bits = is_spelled false 48 bits c.told-bits in
    appended 4 (chosen box1 0 bits written c.substitute-from_s1.ensures) (appended 4 (chosen box2 6 bits written c.substitute-from_s2.ensures)
    (appended 4 (chosen box3 12 bits written c.substitute-from_s3.ensures) (appended 4 (chosen box4 18 bits written c.substitute-from_s4.ensures)
    (appended 4 (chosen box5 24 bits written c.substitute-from_s5.ensures) (appended 4 (chosen box6 30 bits written c.substitute-from_s6.ensures)
    (appended 4 (chosen box7 36 bits written c.substitute-from_s7.ensures) (appended 4 (chosen box8 42 bits written c.substitute-from_s8.ensures) refl)))))))
    ∙ ap (substitute_all boxes) (sym written)
