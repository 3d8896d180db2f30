-- S8 as a circuit. Made by tools/circuits of tools/circuits.txt.
use Rattle.std.proofs.Common.{◌≡◌, ℕ, Bool, true, false, List, [], ◌∷◌, refl}
use mathlib.Core.Bool.{xor}
use Rattle.duk_des.specs.Des.{substitute}
use Rattle.duk_des.specs.Tables.{box8}
use Rattle.duk_lanes.proofs.Gates.{Gate, And, Or, Xor, AndNot, Not, run, picked}

abbrev pub gates8 : List Gate
gates8 =
    Xor 3 5 ∷ Xor 0 5 ∷ Or 0 6 ∷ And 0 8 ∷ Or 0 5 ∷ Not 0 ∷ Xor 0 4 ∷ AndNot 1 12
    ∷ Xor 9 12 ∷ Or 1 0 ∷ And 0 5 ∷ AndNot 13 0 ∷ Xor 5 0 ∷ AndNot 14 16 ∷ Xor 0 16 ∷ And 3 6
    ∷ Xor 0 15 ∷ Xor 2 0 ∷ Xor 0 15 ∷ Xor 0 9 ∷ Xor 0 16 ∷ And 6 17 ∷ Or 0 22 ∷ Xor 2 0
    ∷ Xor 0 19 ∷ Xor 0 16 ∷ Or 28 29 ∷ And 0 10 ∷ Or 16 24 ∷ And 0 19 ∷ And 2 0 ∷ Xor 5 0
    ∷ Or 12 17 ∷ Xor 0 38 ∷ Xor 2 0 ∷ Xor 8 2 ∷ AndNot 1 0 ∷ Or 0 37 ∷ Xor 25 0 ∷ Or 9 43
    ∷ AndNot 40 6 ∷ Xor 0 23 ∷ Xor 2 0 ∷ And 11 43 ∷ Xor 0 31
    ∷ []

abbrev pub outputs8 : List ℕ
outputs8 = 6 ∷ 21 ∷ 2 ∷ 0 ∷ []

pub is_box8 : (a b c d e f : Bool)
    → picked outputs8 (run gates8 (f ∷ e ∷ d ∷ c ∷ b ∷ a ∷ []))
    ≡ substitute box8 (a ∷ b ∷ c ∷ d ∷ e ∷ f ∷ [])
unfolding xor
is_box8 false false false false false false = refl
is_box8 false false false false false true = refl
is_box8 false false false false true false = refl
is_box8 false false false false true true = refl
is_box8 false false false true false false = refl
is_box8 false false false true false true = refl
is_box8 false false false true true false = refl
is_box8 false false false true true true = refl
is_box8 false false true false false false = refl
is_box8 false false true false false true = refl
is_box8 false false true false true false = refl
is_box8 false false true false true true = refl
is_box8 false false true true false false = refl
is_box8 false false true true false true = refl
is_box8 false false true true true false = refl
is_box8 false false true true true true = refl
is_box8 false true false false false false = refl
is_box8 false true false false false true = refl
is_box8 false true false false true false = refl
is_box8 false true false false true true = refl
is_box8 false true false true false false = refl
is_box8 false true false true false true = refl
is_box8 false true false true true false = refl
is_box8 false true false true true true = refl
is_box8 false true true false false false = refl
is_box8 false true true false false true = refl
is_box8 false true true false true false = refl
is_box8 false true true false true true = refl
is_box8 false true true true false false = refl
is_box8 false true true true false true = refl
is_box8 false true true true true false = refl
is_box8 false true true true true true = refl
is_box8 true false false false false false = refl
is_box8 true false false false false true = refl
is_box8 true false false false true false = refl
is_box8 true false false false true true = refl
is_box8 true false false true false false = refl
is_box8 true false false true false true = refl
is_box8 true false false true true false = refl
is_box8 true false false true true true = refl
is_box8 true false true false false false = refl
is_box8 true false true false false true = refl
is_box8 true false true false true false = refl
is_box8 true false true false true true = refl
is_box8 true false true true false false = refl
is_box8 true false true true false true = refl
is_box8 true false true true true false = refl
is_box8 true false true true true true = refl
is_box8 true true false false false false = refl
is_box8 true true false false false true = refl
is_box8 true true false false true false = refl
is_box8 true true false false true true = refl
is_box8 true true false true false false = refl
is_box8 true true false true false true = refl
is_box8 true true false true true false = refl
is_box8 true true false true true true = refl
is_box8 true true true false false false = refl
is_box8 true true true false false true = refl
is_box8 true true true false true false = refl
is_box8 true true true false true true = refl
is_box8 true true true true false false = refl
is_box8 true true true true false true = refl
is_box8 true true true true true false = refl
is_box8 true true true true true true = refl
