use Rattle.std.proofs.Common.{ℕ, ◌/◌, get_or, refl}
use Rattle.duk_des.proofs.PermutedChoiceTables.{seven_low, added, halves_of_sevens, byte1, byte2, byte3, byte4, byte5, byte6, byte7, byte8}
use Rattle.duk_des.proofs.words.key_tables.halves_of_key.Goals as goal

pub returns : goal.returns
returns c =
    let seven : ℕ → ℕ = λ i. get_or c.args.key.now i 0 / 2 in
    halves_of_sevens c.args.key.now _ c.told-key
    (added (added (added (added (added (added (added (seven_low byte1 (seven 0) refl) (seven_low byte2 (seven 1) refl)) (seven_low byte3 (seven 2) refl)) (seven_low byte4 (seven 3) refl))
    (seven_low byte5 (seven 4) refl)) (seven_low byte6 (seven 5) refl)) (seven_low byte7 (seven 6) refl)) (seven_low byte8 (seven 7) refl))
