-- S2 as a circuit. Made by tools/circuits of tools/circuits.txt.
use Rattle.std.proofs.Common.{◌≡◌, ℕ, Bool, true, false, List, [], ◌∷◌, refl}
use mathlib.Core.Bool.{xor}
use Rattle.duk_des.specs.Des.{substitute}
use Rattle.duk_des.specs.Tables.{box2}
use Rattle.duk_lanes.proofs.Gates.{Gate, And, Or, Xor, AndNot, Not, run, picked}

abbrev pub gates2 : List Gate
gates2 =
    Xor 1 4 ∷ Xor 0 1 ∷ Or 2 7 ∷ Xor 1 0 ∷ And 0 5 ∷ Or 0 4 ∷ Xor 11 10 ∷ Or 0 5
    ∷ And 0 2 ∷ Or 4 13 ∷ Not 0 ∷ Or 2 0 ∷ AndNot 10 3 ∷ Xor 6 0 ∷ AndNot 2 0 ∷ Xor 10 12
    ∷ And 0 4 ∷ AndNot 3 0 ∷ AndNot 21 0 ∷ AndNot 21 8 ∷ Xor 1 0 ∷ Xor 6 0 ∷ Xor 16 0 ∷ And 23 26
    ∷ Xor 13 24 ∷ Xor 0 20 ∷ Xor 0 13 ∷ Or 3 0 ∷ And 0 30 ∷ Xor 23 0 ∷ Xor 0 23 ∷ Or 5 34
    ∷ Xor 1 0 ∷ And 21 35 ∷ Xor 0 26 ∷ Xor 0 10 ∷ AndNot 0 23 ∷ Xor 0 37 ∷ AndNot 41 21 ∷ AndNot 1 0
    ∷ Xor 39 0 ∷ AndNot 0 18 ∷ Or 0 16 ∷ And 0 46 ∷ Xor 8 5 ∷ AndNot 0 15 ∷ Xor 0 26 ∷ Xor 3 0
    ∷ And 7 53 ∷ Xor 1 0
    ∷ []

abbrev pub outputs2 : List ℕ
outputs2 = 27 ∷ 17 ∷ 0 ∷ 5 ∷ []

pub is_box2 : (a b c d e f : Bool)
    → picked outputs2 (run gates2 (f ∷ e ∷ d ∷ c ∷ b ∷ a ∷ []))
    ≡ substitute box2 (a ∷ b ∷ c ∷ d ∷ e ∷ f ∷ [])
unfolding xor
is_box2 false false false false false false = refl
is_box2 false false false false false true = refl
is_box2 false false false false true false = refl
is_box2 false false false false true true = refl
is_box2 false false false true false false = refl
is_box2 false false false true false true = refl
is_box2 false false false true true false = refl
is_box2 false false false true true true = refl
is_box2 false false true false false false = refl
is_box2 false false true false false true = refl
is_box2 false false true false true false = refl
is_box2 false false true false true true = refl
is_box2 false false true true false false = refl
is_box2 false false true true false true = refl
is_box2 false false true true true false = refl
is_box2 false false true true true true = refl
is_box2 false true false false false false = refl
is_box2 false true false false false true = refl
is_box2 false true false false true false = refl
is_box2 false true false false true true = refl
is_box2 false true false true false false = refl
is_box2 false true false true false true = refl
is_box2 false true false true true false = refl
is_box2 false true false true true true = refl
is_box2 false true true false false false = refl
is_box2 false true true false false true = refl
is_box2 false true true false true false = refl
is_box2 false true true false true true = refl
is_box2 false true true true false false = refl
is_box2 false true true true false true = refl
is_box2 false true true true true false = refl
is_box2 false true true true true true = refl
is_box2 true false false false false false = refl
is_box2 true false false false false true = refl
is_box2 true false false false true false = refl
is_box2 true false false false true true = refl
is_box2 true false false true false false = refl
is_box2 true false false true false true = refl
is_box2 true false false true true false = refl
is_box2 true false false true true true = refl
is_box2 true false true false false false = refl
is_box2 true false true false false true = refl
is_box2 true false true false true false = refl
is_box2 true false true false true true = refl
is_box2 true false true true false false = refl
is_box2 true false true true false true = refl
is_box2 true false true true true false = refl
is_box2 true false true true true true = refl
is_box2 true true false false false false = refl
is_box2 true true false false false true = refl
is_box2 true true false false true false = refl
is_box2 true true false false true true = refl
is_box2 true true false true false false = refl
is_box2 true true false true false true = refl
is_box2 true true false true true false = refl
is_box2 true true false true true true = refl
is_box2 true true true false false false = refl
is_box2 true true true false false true = refl
is_box2 true true true false true false = refl
is_box2 true true true false true true = refl
is_box2 true true true true false false = refl
is_box2 true true true true false true = refl
is_box2 true true true true true false = refl
is_box2 true true true true true true = refl
