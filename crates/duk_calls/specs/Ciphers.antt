-- What the calls over TDES answer (NIST SP 800-67 section 3, NIST SP 800-38A section 6.2).
use Rattle.std.specs.Prelude.{◌≡◌, ◌%◌, ℕ, List, [], ◌∷◌, length}
use Rattle.duk_tdes.specs.Tdes.{IsTdesLength}
use Rattle.duk_calls.specs.Answer.{Answer, EndsIfFit, HaveLengths}

-- a block under the cipher or its inverse
abbrev pub BlockAnswers : (List ℕ → List ℕ → List ℕ) → List ℕ → List ℕ → List ℕ → Answer → Type 0
BlockAnswers cipher key old new =
    EndsIfFit (IsTdesLength (length key) × HaveLengths (old ∷ []) (8 ∷ []))
    (new ≡ cipher key old) (new ≡ old)

-- a key of either length, an initial vector, and whole blocks, perhaps none
pub record FitChain (key iv bytes : List ℕ) : Type 0 where
  pub key_is : IsTdesLength (length key)
  pub iv_is : length iv ≡ 8
  pub whole : length bytes % 8 ≡ 0

-- whole blocks in CBC
abbrev pub ChainAnswers : (List ℕ → List ℕ → List ℕ → List ℕ) → List ℕ → List ℕ → List ℕ → List ℕ → Answer → Type 0
ChainAnswers mode key iv old new =
    EndsIfFit (FitChain key iv old) (new ≡ mode key iv old) (new ≡ old)
