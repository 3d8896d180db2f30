-- S3 as a circuit. Made by tools/circuits of tools/circuits.txt.
use Rattle.std.proofs.Common.{◌≡◌, ℕ, Bool, true, false, List, [], ◌∷◌, refl}
use mathlib.Core.Bool.{xor}
use Rattle.duk_des.specs.Des.{substitute}
use Rattle.duk_des.specs.Tables.{box3}
use Rattle.duk_lanes.proofs.Gates.{Gate, And, Or, Xor, AndNot, Not, run, picked}

abbrev pub gates3 : List Gate
gates3 =
    And 0 5 ∷ Xor 4 6 ∷ Xor 1 0 ∷ Or 4 8 ∷ Xor 4 2 ∷ Xor 0 9 ∷ And 2 0 ∷ AndNot 4 0
    ∷ AndNot 12 0 ∷ And 8 12 ∷ AndNot 10 2 ∷ Xor 0 12 ∷ AndNot 0 17 ∷ Xor 0 2 ∷ Or 0 16 ∷ Or 7 16
    ∷ Xor 1 0 ∷ AndNot 4 0 ∷ Or 8 0 ∷ Or 0 23 ∷ Xor 0 14 ∷ Xor 12 0 ∷ Not 0 ∷ AndNot 0 28
    ∷ Or 0 26 ∷ AndNot 13 24 ∷ Xor 6 0 ∷ AndNot 30 0 ∷ Or 0 29 ∷ Xor 0 8 ∷ Xor 5 0 ∷ AndNot 31 36
    ∷ AndNot 0 1 ∷ Or 0 34 ∷ Or 15 26 ∷ Xor 0 11 ∷ Xor 2 0 ∷ Xor 9 0 ∷ Or 12 32 ∷ Or 1 40
    ∷ AndNot 31 45 ∷ Xor 1 0 ∷ Xor 3 0 ∷ Or 0 45 ∷ Xor 6 0 ∷ Xor 3 49 ∷ And 0 48 ∷ Xor 10 0
    ∷ Xor 31 42
    ∷ []

abbrev pub outputs3 : List ℕ
outputs3 = 18 ∷ 4 ∷ 1 ∷ 0 ∷ []

pub is_box3 : (a b c d e f : Bool)
    → picked outputs3 (run gates3 (f ∷ e ∷ d ∷ c ∷ b ∷ a ∷ []))
    ≡ substitute box3 (a ∷ b ∷ c ∷ d ∷ e ∷ f ∷ [])
unfolding xor
is_box3 false false false false false false = refl
is_box3 false false false false false true = refl
is_box3 false false false false true false = refl
is_box3 false false false false true true = refl
is_box3 false false false true false false = refl
is_box3 false false false true false true = refl
is_box3 false false false true true false = refl
is_box3 false false false true true true = refl
is_box3 false false true false false false = refl
is_box3 false false true false false true = refl
is_box3 false false true false true false = refl
is_box3 false false true false true true = refl
is_box3 false false true true false false = refl
is_box3 false false true true false true = refl
is_box3 false false true true true false = refl
is_box3 false false true true true true = refl
is_box3 false true false false false false = refl
is_box3 false true false false false true = refl
is_box3 false true false false true false = refl
is_box3 false true false false true true = refl
is_box3 false true false true false false = refl
is_box3 false true false true false true = refl
is_box3 false true false true true false = refl
is_box3 false true false true true true = refl
is_box3 false true true false false false = refl
is_box3 false true true false false true = refl
is_box3 false true true false true false = refl
is_box3 false true true false true true = refl
is_box3 false true true true false false = refl
is_box3 false true true true false true = refl
is_box3 false true true true true false = refl
is_box3 false true true true true true = refl
is_box3 true false false false false false = refl
is_box3 true false false false false true = refl
is_box3 true false false false true false = refl
is_box3 true false false false true true = refl
is_box3 true false false true false false = refl
is_box3 true false false true false true = refl
is_box3 true false false true true false = refl
is_box3 true false false true true true = refl
is_box3 true false true false false false = refl
is_box3 true false true false false true = refl
is_box3 true false true false true false = refl
is_box3 true false true false true true = refl
is_box3 true false true true false false = refl
is_box3 true false true true false true = refl
is_box3 true false true true true false = refl
is_box3 true false true true true true = refl
is_box3 true true false false false false = refl
is_box3 true true false false false true = refl
is_box3 true true false false true false = refl
is_box3 true true false false true true = refl
is_box3 true true false true false false = refl
is_box3 true true false true false true = refl
is_box3 true true false true true false = refl
is_box3 true true false true true true = refl
is_box3 true true true false false false = refl
is_box3 true true true false false true = refl
is_box3 true true true false true false = refl
is_box3 true true true false true true = refl
is_box3 true true true true false false = refl
is_box3 true true true true false true = refl
is_box3 true true true true true false = refl
is_box3 true true true true true true = refl
