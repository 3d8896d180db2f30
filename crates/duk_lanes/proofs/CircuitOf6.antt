-- S6 as a circuit. Made by tools/circuits of tools/circuits.txt.
use Rattle.std.proofs.Common.{◌≡◌, ℕ, Bool, true, false, List, [], ◌∷◌, refl}
use mathlib.Core.Bool.{xor}
use Rattle.duk_des.specs.Des.{substitute}
use Rattle.duk_des.specs.Tables.{box6}
use Rattle.duk_lanes.proofs.Gates.{Gate, And, Or, Xor, AndNot, Not, run, picked}

abbrev pub gates6 : List Gate
gates6 =
    Xor 5 2 ∷ And 0 5 ∷ Xor 2 3 ∷ And 5 8 ∷ Xor 1 0 ∷ Xor 4 3 ∷ AndNot 11 0 ∷ AndNot 7 0
    ∷ Or 3 0 ∷ Xor 8 0 ∷ AndNot 10 0 ∷ Or 0 5 ∷ Xor 0 7 ∷ Xor 11 0 ∷ Xor 0 10 ∷ AndNot 0 16
    ∷ Xor 0 20 ∷ Not 0 ∷ Xor 0 8 ∷ Xor 0 20 ∷ And 0 9 ∷ Xor 0 3 ∷ Or 0 25 ∷ Xor 0 8
    ∷ AndNot 11 24 ∷ Or 0 9 ∷ And 0 31 ∷ Xor 14 8 ∷ Xor 1 0 ∷ AndNot 28 21 ∷ Xor 0 11 ∷ AndNot 20 11
    ∷ Xor 0 8 ∷ And 0 35 ∷ Xor 0 14 ∷ AndNot 0 38 ∷ Xor 5 0 ∷ Xor 25 28 ∷ And 1 0 ∷ Or 0 42
    ∷ Xor 11 0 ∷ Or 4 26 ∷ Xor 7 17 ∷ AndNot 1 0 ∷ Or 0 44 ∷ And 0 46 ∷ AndNot 3 47 ∷ Or 0 50
    ∷ Xor 2 0 ∷ Xor 0 35 ∷ Xor 0 31
    ∷ []

abbrev pub outputs6 : List ℕ
outputs6 = 27 ∷ 10 ∷ 0 ∷ 14 ∷ []

pub is_box6 : (a b c d e f : Bool)
    → picked outputs6 (run gates6 (f ∷ e ∷ d ∷ c ∷ b ∷ a ∷ []))
    ≡ substitute box6 (a ∷ b ∷ c ∷ d ∷ e ∷ f ∷ [])
unfolding xor
is_box6 false false false false false false = refl
is_box6 false false false false false true = refl
is_box6 false false false false true false = refl
is_box6 false false false false true true = refl
is_box6 false false false true false false = refl
is_box6 false false false true false true = refl
is_box6 false false false true true false = refl
is_box6 false false false true true true = refl
is_box6 false false true false false false = refl
is_box6 false false true false false true = refl
is_box6 false false true false true false = refl
is_box6 false false true false true true = refl
is_box6 false false true true false false = refl
is_box6 false false true true false true = refl
is_box6 false false true true true false = refl
is_box6 false false true true true true = refl
is_box6 false true false false false false = refl
is_box6 false true false false false true = refl
is_box6 false true false false true false = refl
is_box6 false true false false true true = refl
is_box6 false true false true false false = refl
is_box6 false true false true false true = refl
is_box6 false true false true true false = refl
is_box6 false true false true true true = refl
is_box6 false true true false false false = refl
is_box6 false true true false false true = refl
is_box6 false true true false true false = refl
is_box6 false true true false true true = refl
is_box6 false true true true false false = refl
is_box6 false true true true false true = refl
is_box6 false true true true true false = refl
is_box6 false true true true true true = refl
is_box6 true false false false false false = refl
is_box6 true false false false false true = refl
is_box6 true false false false true false = refl
is_box6 true false false false true true = refl
is_box6 true false false true false false = refl
is_box6 true false false true false true = refl
is_box6 true false false true true false = refl
is_box6 true false false true true true = refl
is_box6 true false true false false false = refl
is_box6 true false true false false true = refl
is_box6 true false true false true false = refl
is_box6 true false true false true true = refl
is_box6 true false true true false false = refl
is_box6 true false true true false true = refl
is_box6 true false true true true false = refl
is_box6 true false true true true true = refl
is_box6 true true false false false false = refl
is_box6 true true false false false true = refl
is_box6 true true false false true false = refl
is_box6 true true false false true true = refl
is_box6 true true false true false false = refl
is_box6 true true false true false true = refl
is_box6 true true false true true false = refl
is_box6 true true false true true true = refl
is_box6 true true true false false false = refl
is_box6 true true true false false true = refl
is_box6 true true true false true false = refl
is_box6 true true true false true true = refl
is_box6 true true true true false false = refl
is_box6 true true true true false true = refl
is_box6 true true true true true false = refl
is_box6 true true true true true true = refl
