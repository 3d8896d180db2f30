use Rattle.std.proofs.Common.{◌++◌}
use Rattle.duk_des.specs.inner.Words.{half_bits}
use Rattle.duk_des.proofs.KeyHalves.{key_of_words}
use Rattle.duk_des.proofs.words.round_keys.round_key.Goals as goal

pub returns : goal.returns
returns c = key_of_words c.words_of_halves-word.result (half_bits c.args.c ++ half_bits c.args.d) c.words_of_halves-word.ensures
