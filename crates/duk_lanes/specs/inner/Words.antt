-- What only private functions and proofs say beside `Words.antt`: this project's own.
use Rattle.std.specs.Prelude.{ℕ, Bool, List}
use Rattle.duk_des.specs.Bits.{bits_of}

-- the bits of a word, the most significant first
unfoldable pub word_bits : ℕ → List Bool
word_bits word = bits_of 64 word
