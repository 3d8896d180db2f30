use Rattle.std.proofs.Common.{◌/◌, ◌^◌, refl}
use Rattle.duk_des.proofs.PermutedChoiceTables.{seven_low, added, words_of_sevens, seven1, seven2, seven3, seven4, seven5, seven6, seven7, seven8}
use Rattle.duk_des.proofs.words.key_tables.words_of_halves.Goals as goal

pub returns : goal.returns
returns c =
    words_of_sevens c.args.c c.args.d _
    (added (added (added (added (added (added (added (seven_low seven1 (c.args.c / 2 ^ 21) refl) (seven_low seven2 (c.args.c / 2 ^ 14) refl)) (seven_low seven3 (c.args.c / 2 ^ 7) refl)) (seven_low seven4 c.args.c refl))
    (seven_low seven5 (c.args.d / 2 ^ 21) refl)) (seven_low seven6 (c.args.d / 2 ^ 14) refl)) (seven_low seven7 (c.args.d / 2 ^ 7) refl)) (seven_low seven8 c.args.d refl))
