-- S4 as a circuit. Made by tools/circuits of tools/circuits.txt.
use Rattle.std.proofs.Common.{◌≡◌, ℕ, Bool, true, false, List, [], ◌∷◌, refl}
use mathlib.Core.Bool.{xor}
use Rattle.duk_des.specs.Des.{substitute}
use Rattle.duk_des.specs.Tables.{box4}
use Rattle.duk_lanes.proofs.Gates.{Gate, And, Or, Xor, AndNot, Not, run, picked}

abbrev pub gates4 : List Gate
gates4 =
    Xor 1 2 ∷ And 0 2 ∷ Xor 0 5 ∷ And 0 2 ∷ Xor 0 6 ∷ AndNot 10 0 ∷ Or 0 10 ∷ And 4 9
    ∷ Xor 2 7 ∷ Not 0 ∷ Xor 0 14 ∷ And 3 0 ∷ Xor 5 0 ∷ AndNot 18 0 ∷ AndNot 15 0 ∷ Xor 12 20
    ∷ Xor 0 5 ∷ Or 0 13 ∷ Xor 3 0 ∷ Xor 0 19 ∷ And 0 1 ∷ And 2 23 ∷ Xor 0 25 ∷ Or 0 27
    ∷ Xor 14 0 ∷ Xor 0 20 ∷ Xor 5 0 ∷ Xor 7 0 ∷ And 15 25 ∷ Xor 0 18 ∷ Or 0 30 ∷ Xor 15 18
    ∷ Xor 1 0 ∷ Xor 0 3 ∷ Not 0 ∷ Xor 0 35
    ∷ []

abbrev pub outputs4 : List ℕ
outputs4 = 9 ∷ 8 ∷ 0 ∷ 3 ∷ []

pub is_box4 : (a b c d e f : Bool)
    → picked outputs4 (run gates4 (f ∷ e ∷ d ∷ c ∷ b ∷ a ∷ []))
    ≡ substitute box4 (a ∷ b ∷ c ∷ d ∷ e ∷ f ∷ [])
unfolding xor
is_box4 false false false false false false = refl
is_box4 false false false false false true = refl
is_box4 false false false false true false = refl
is_box4 false false false false true true = refl
is_box4 false false false true false false = refl
is_box4 false false false true false true = refl
is_box4 false false false true true false = refl
is_box4 false false false true true true = refl
is_box4 false false true false false false = refl
is_box4 false false true false false true = refl
is_box4 false false true false true false = refl
is_box4 false false true false true true = refl
is_box4 false false true true false false = refl
is_box4 false false true true false true = refl
is_box4 false false true true true false = refl
is_box4 false false true true true true = refl
is_box4 false true false false false false = refl
is_box4 false true false false false true = refl
is_box4 false true false false true false = refl
is_box4 false true false false true true = refl
is_box4 false true false true false false = refl
is_box4 false true false true false true = refl
is_box4 false true false true true false = refl
is_box4 false true false true true true = refl
is_box4 false true true false false false = refl
is_box4 false true true false false true = refl
is_box4 false true true false true false = refl
is_box4 false true true false true true = refl
is_box4 false true true true false false = refl
is_box4 false true true true false true = refl
is_box4 false true true true true false = refl
is_box4 false true true true true true = refl
is_box4 true false false false false false = refl
is_box4 true false false false false true = refl
is_box4 true false false false true false = refl
is_box4 true false false false true true = refl
is_box4 true false false true false false = refl
is_box4 true false false true false true = refl
is_box4 true false false true true false = refl
is_box4 true false false true true true = refl
is_box4 true false true false false false = refl
is_box4 true false true false false true = refl
is_box4 true false true false true false = refl
is_box4 true false true false true true = refl
is_box4 true false true true false false = refl
is_box4 true false true true false true = refl
is_box4 true false true true true false = refl
is_box4 true false true true true true = refl
is_box4 true true false false false false = refl
is_box4 true true false false false true = refl
is_box4 true true false false true false = refl
is_box4 true true false false true true = refl
is_box4 true true false true false false = refl
is_box4 true true false true false true = refl
is_box4 true true false true true false = refl
is_box4 true true false true true true = refl
is_box4 true true true false false false = refl
is_box4 true true true false false true = refl
is_box4 true true true false true false = refl
is_box4 true true true false true true = refl
is_box4 true true true true false false = refl
is_box4 true true true true false true = refl
is_box4 true true true true true false = refl
is_box4 true true true true true true = refl
