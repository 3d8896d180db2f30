-- S7 as a circuit. Made by tools/circuits of tools/circuits.txt.
use Rattle.std.proofs.Common.{◌≡◌, ℕ, Bool, true, false, List, [], ◌∷◌, refl}
use mathlib.Core.Bool.{xor}
use Rattle.duk_des.specs.Des.{substitute}
use Rattle.duk_des.specs.Tables.{box7}
use Rattle.duk_lanes.proofs.Gates.{Gate, And, Or, Xor, AndNot, Not, run, picked}

abbrev pub gates7 : List Gate
gates7 =
    And 1 2 ∷ AndNot 5 0 ∷ Not 0 ∷ Xor 2 7 ∷ Xor 1 0 ∷ Xor 1 7 ∷ Or 3 0 ∷ And 0 10
    ∷ Xor 0 12 ∷ Xor 0 11 ∷ AndNot 5 0 ∷ Xor 14 5 ∷ Or 1 0 ∷ Xor 9 18 ∷ Xor 1 0 ∷ AndNot 19 3
    ∷ AndNot 1 0 ∷ AndNot 17 0 ∷ Xor 0 2 ∷ Xor 0 13 ∷ And 9 25 ∷ Xor 1 0 ∷ Xor 0 17 ∷ Xor 0 24
    ∷ AndNot 6 16 ∷ Xor 0 14 ∷ Xor 0 26 ∷ Xor 3 0 ∷ AndNot 31 22 ∷ Xor 15 30 ∷ Xor 1 0 ∷ Xor 34 1
    ∷ And 0 26 ∷ And 0 38 ∷ Xor 0 27 ∷ And 0 35 ∷ Xor 5 0 ∷ Or 0 7 ∷ Xor 0 23 ∷ And 0 17
    ∷ And 0 45 ∷ Xor 13 0 ∷ AndNot 44 1 ∷ AndNot 35 0 ∷ AndNot 41 0 ∷ Xor 4 8 ∷ Or 0 46 ∷ Xor 2 0
    ∷ Xor 0 21
    ∷ []

abbrev pub outputs7 : List ℕ
outputs7 = 7 ∷ 25 ∷ 0 ∷ 12 ∷ []

pub is_box7 : (a b c d e f : Bool)
    → picked outputs7 (run gates7 (f ∷ e ∷ d ∷ c ∷ b ∷ a ∷ []))
    ≡ substitute box7 (a ∷ b ∷ c ∷ d ∷ e ∷ f ∷ [])
unfolding xor
is_box7 false false false false false false = refl
is_box7 false false false false false true = refl
is_box7 false false false false true false = refl
is_box7 false false false false true true = refl
is_box7 false false false true false false = refl
is_box7 false false false true false true = refl
is_box7 false false false true true false = refl
is_box7 false false false true true true = refl
is_box7 false false true false false false = refl
is_box7 false false true false false true = refl
is_box7 false false true false true false = refl
is_box7 false false true false true true = refl
is_box7 false false true true false false = refl
is_box7 false false true true false true = refl
is_box7 false false true true true false = refl
is_box7 false false true true true true = refl
is_box7 false true false false false false = refl
is_box7 false true false false false true = refl
is_box7 false true false false true false = refl
is_box7 false true false false true true = refl
is_box7 false true false true false false = refl
is_box7 false true false true false true = refl
is_box7 false true false true true false = refl
is_box7 false true false true true true = refl
is_box7 false true true false false false = refl
is_box7 false true true false false true = refl
is_box7 false true true false true false = refl
is_box7 false true true false true true = refl
is_box7 false true true true false false = refl
is_box7 false true true true false true = refl
is_box7 false true true true true false = refl
is_box7 false true true true true true = refl
is_box7 true false false false false false = refl
is_box7 true false false false false true = refl
is_box7 true false false false true false = refl
is_box7 true false false false true true = refl
is_box7 true false false true false false = refl
is_box7 true false false true false true = refl
is_box7 true false false true true false = refl
is_box7 true false false true true true = refl
is_box7 true false true false false false = refl
is_box7 true false true false false true = refl
is_box7 true false true false true false = refl
is_box7 true false true false true true = refl
is_box7 true false true true false false = refl
is_box7 true false true true false true = refl
is_box7 true false true true true false = refl
is_box7 true false true true true true = refl
is_box7 true true false false false false = refl
is_box7 true true false false false true = refl
is_box7 true true false false true false = refl
is_box7 true true false false true true = refl
is_box7 true true false true false false = refl
is_box7 true true false true false true = refl
is_box7 true true false true true false = refl
is_box7 true true false true true true = refl
is_box7 true true true false false false = refl
is_box7 true true true false false true = refl
is_box7 true true true false true false = refl
is_box7 true true true false true true = refl
is_box7 true true true true false false = refl
is_box7 true true true true false true = refl
is_box7 true true true true true false = refl
is_box7 true true true true true true = refl
