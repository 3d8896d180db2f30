use Rattle.duk_des.specs.Bits.{bits_of_bytes}
use Rattle.duk_des.proofs.KeyHalves.{left_half, right_half}
use Rattle.duk_des.proofs.words.round_keys.choose_halves.Goals as goal

pub returns-clause-left : goal.returns-clause-left
returns-clause-left c = left_half c.halves_of_key-word.result (bits_of_bytes c.args.key.now) c.halves_of_key-word.ensures

pub returns-clause-right : goal.returns-clause-right
returns-clause-right c = right_half c.halves_of_key-word.result (bits_of_bytes c.args.key.now) c.halves_of_key-word.ensures
