use Rattle.std.proofs.Common.{refl}
use Rattle.duk_des.proofs.CipherOfWords.{sum_of_words}
use Rattle.duk_des.proofs.words.next_half.Goals as goal

pub returns : goal.returns
returns c = sum_of_words c.args.left c.cipher_word.result refl c.cipher_word.ensures
