-- S5 as a circuit. Made by tools/circuits of tools/circuits.txt.
use Rattle.std.proofs.Common.{◌≡◌, ℕ, Bool, true, false, List, [], ◌∷◌, refl}
use mathlib.Core.Bool.{xor}
use Rattle.duk_des.specs.Des.{substitute}
use Rattle.duk_des.specs.Tables.{box5}
use Rattle.duk_lanes.proofs.Gates.{Gate, And, Or, Xor, AndNot, Not, run, picked}

abbrev pub gates5 : List Gate
gates5 =
    Xor 5 3 ∷ AndNot 0 6 ∷ Or 0 3 ∷ AndNot 2 4 ∷ Xor 0 8 ∷ Xor 0 3 ∷ Xor 3 0 ∷ Xor 6 5
    ∷ Or 1 0 ∷ Xor 4 14 ∷ AndNot 0 9 ∷ Xor 12 0 ∷ Xor 0 9 ∷ Or 0 15 ∷ Xor 7 0 ∷ Or 0 16
    ∷ Xor 7 0 ∷ AndNot 7 11 ∷ Or 0 14 ∷ Xor 0 8 ∷ And 0 22 ∷ Xor 4 0 ∷ Xor 3 21 ∷ AndNot 11 0
    ∷ Or 0 16 ∷ AndNot 29 0 ∷ Xor 0 1 ∷ Xor 0 20 ∷ AndNot 0 26 ∷ Or 5 10 ∷ And 1 0 ∷ Xor 15 5
    ∷ Or 5 9 ∷ And 0 35 ∷ AndNot 2 0 ∷ Xor 33 0 ∷ AndNot 0 36 ∷ Xor 6 0 ∷ Xor 4 28 ∷ Xor 1 0
    ∷ Or 0 29 ∷ And 0 19 ∷ Xor 0 23 ∷ Or 0 45 ∷ Xor 19 0 ∷ Or 0 45 ∷ Xor 24 0 ∷ AndNot 29 49
    ∷ Or 0 48 ∷ Xor 34 0 ∷ Not 10 ∷ And 17 21 ∷ Xor 0 24 ∷ Or 11 54 ∷ Xor 0 46 ∷ And 0 55
    ∷ Xor 3 0
    ∷ []

abbrev pub outputs5 : List ℕ
outputs5 = 10 ∷ 7 ∷ 6 ∷ 0 ∷ []

pub is_box5 : (a b c d e f : Bool)
    → picked outputs5 (run gates5 (f ∷ e ∷ d ∷ c ∷ b ∷ a ∷ []))
    ≡ substitute box5 (a ∷ b ∷ c ∷ d ∷ e ∷ f ∷ [])
unfolding xor
is_box5 false false false false false false = refl
is_box5 false false false false false true = refl
is_box5 false false false false true false = refl
is_box5 false false false false true true = refl
is_box5 false false false true false false = refl
is_box5 false false false true false true = refl
is_box5 false false false true true false = refl
is_box5 false false false true true true = refl
is_box5 false false true false false false = refl
is_box5 false false true false false true = refl
is_box5 false false true false true false = refl
is_box5 false false true false true true = refl
is_box5 false false true true false false = refl
is_box5 false false true true false true = refl
is_box5 false false true true true false = refl
is_box5 false false true true true true = refl
is_box5 false true false false false false = refl
is_box5 false true false false false true = refl
is_box5 false true false false true false = refl
is_box5 false true false false true true = refl
is_box5 false true false true false false = refl
is_box5 false true false true false true = refl
is_box5 false true false true true false = refl
is_box5 false true false true true true = refl
is_box5 false true true false false false = refl
is_box5 false true true false false true = refl
is_box5 false true true false true false = refl
is_box5 false true true false true true = refl
is_box5 false true true true false false = refl
is_box5 false true true true false true = refl
is_box5 false true true true true false = refl
is_box5 false true true true true true = refl
is_box5 true false false false false false = refl
is_box5 true false false false false true = refl
is_box5 true false false false true false = refl
is_box5 true false false false true true = refl
is_box5 true false false true false false = refl
is_box5 true false false true false true = refl
is_box5 true false false true true false = refl
is_box5 true false false true true true = refl
is_box5 true false true false false false = refl
is_box5 true false true false false true = refl
is_box5 true false true false true false = refl
is_box5 true false true false true true = refl
is_box5 true false true true false false = refl
is_box5 true false true true false true = refl
is_box5 true false true true true false = refl
is_box5 true false true true true true = refl
is_box5 true true false false false false = refl
is_box5 true true false false false true = refl
is_box5 true true false false true false = refl
is_box5 true true false false true true = refl
is_box5 true true false true false false = refl
is_box5 true true false true false true = refl
is_box5 true true false true true false = refl
is_box5 true true false true true true = refl
is_box5 true true true false false false = refl
is_box5 true true true false false true = refl
is_box5 true true true false true false = refl
is_box5 true true true false true true = refl
is_box5 true true true true false false = refl
is_box5 true true true true false true = refl
is_box5 true true true true true false = refl
is_box5 true true true true true true = refl
