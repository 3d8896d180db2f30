-- S1 as a circuit. Made by tools/circuits of tools/circuits.txt.
use Rattle.std.proofs.Common.{◌≡◌, ℕ, Bool, true, false, List, [], ◌∷◌, refl}
use mathlib.Core.Bool.{xor}
use Rattle.duk_des.specs.Des.{substitute}
use Rattle.duk_des.specs.Tables.{box1}
use Rattle.duk_lanes.proofs.Gates.{Gate, And, Or, Xor, AndNot, Not, run, picked}

abbrev pub gates1 : List Gate
gates1 =
    Xor 2 3 ∷ AndNot 0 3 ∷ AndNot 2 0 ∷ Xor 0 6 ∷ And 0 5 ∷ Or 0 7 ∷ AndNot 6 5 ∷ AndNot 8 9
    ∷ Or 0 3 ∷ AndNot 2 0 ∷ Xor 12 5 ∷ Xor 1 0 ∷ Xor 0 13 ∷ Xor 7 0 ∷ And 0 17 ∷ Xor 0 19
    ∷ And 0 17 ∷ Xor 6 17 ∷ Xor 0 14 ∷ And 2 0 ∷ And 0 25 ∷ AndNot 3 8 ∷ Or 20 26 ∷ Xor 15 0
    ∷ Xor 2 0 ∷ Xor 0 22 ∷ Or 0 30 ∷ AndNot 0 5 ∷ And 0 33 ∷ Xor 0 10 ∷ Or 17 34 ∷ Xor 1 0
    ∷ Xor 0 23 ∷ Xor 0 22 ∷ AndNot 39 0 ∷ Xor 0 9 ∷ Not 0 ∷ Xor 22 0 ∷ Xor 17 0 ∷ And 30 16
    ∷ Xor 0 7 ∷ Not 0 ∷ AndNot 18 7 ∷ Xor 0 24 ∷ Or 0 32 ∷ And 0 50 ∷ Xor 0 12 ∷ Xor 0 9
    ∷ And 41 3 ∷ Xor 1 0 ∷ AndNot 54 36 ∷ AndNot 40 31 ∷ Xor 1 0 ∷ Xor 7 0
    ∷ []

abbrev pub outputs1 : List ℕ
outputs1 = 15 ∷ 12 ∷ 4 ∷ 0 ∷ []

pub is_box1 : (a b c d e f : Bool)
    → picked outputs1 (run gates1 (f ∷ e ∷ d ∷ c ∷ b ∷ a ∷ []))
    ≡ substitute box1 (a ∷ b ∷ c ∷ d ∷ e ∷ f ∷ [])
unfolding xor
is_box1 false false false false false false = refl
is_box1 false false false false false true = refl
is_box1 false false false false true false = refl
is_box1 false false false false true true = refl
is_box1 false false false true false false = refl
is_box1 false false false true false true = refl
is_box1 false false false true true false = refl
is_box1 false false false true true true = refl
is_box1 false false true false false false = refl
is_box1 false false true false false true = refl
is_box1 false false true false true false = refl
is_box1 false false true false true true = refl
is_box1 false false true true false false = refl
is_box1 false false true true false true = refl
is_box1 false false true true true false = refl
is_box1 false false true true true true = refl
is_box1 false true false false false false = refl
is_box1 false true false false false true = refl
is_box1 false true false false true false = refl
is_box1 false true false false true true = refl
is_box1 false true false true false false = refl
is_box1 false true false true false true = refl
is_box1 false true false true true false = refl
is_box1 false true false true true true = refl
is_box1 false true true false false false = refl
is_box1 false true true false false true = refl
is_box1 false true true false true false = refl
is_box1 false true true false true true = refl
is_box1 false true true true false false = refl
is_box1 false true true true false true = refl
is_box1 false true true true true false = refl
is_box1 false true true true true true = refl
is_box1 true false false false false false = refl
is_box1 true false false false false true = refl
is_box1 true false false false true false = refl
is_box1 true false false false true true = refl
is_box1 true false false true false false = refl
is_box1 true false false true false true = refl
is_box1 true false false true true false = refl
is_box1 true false false true true true = refl
is_box1 true false true false false false = refl
is_box1 true false true false false true = refl
is_box1 true false true false true false = refl
is_box1 true false true false true true = refl
is_box1 true false true true false false = refl
is_box1 true false true true false true = refl
is_box1 true false true true true false = refl
is_box1 true false true true true true = refl
is_box1 true true false false false false = refl
is_box1 true true false false false true = refl
is_box1 true true false false true false = refl
is_box1 true true false false true true = refl
is_box1 true true false true false false = refl
is_box1 true true false true false true = refl
is_box1 true true false true true false = refl
is_box1 true true false true true true = refl
is_box1 true true true false false false = refl
is_box1 true true true false false true = refl
is_box1 true true true false true false = refl
is_box1 true true true false true true = refl
is_box1 true true true true false false = refl
is_box1 true true true true false true = refl
is_box1 true true true true true false = refl
is_box1 true true true true true true = refl
