-- What the calls over MACs and check values answer (NIST SP 800-38B, ANSI X9.19, ANSI X9.24-1:2017
-- annex A).
use Rattle.std.specs.Prelude.{◌≡◌, ◌<◌, ℕ, List, [], ◌∷◌, length}
use Rattle.duk_mac.specs.Cmac.{cmac_of}
use Rattle.duk_mac.specs.Retail.{retail_of}
use Rattle.duk_tdes.specs.Tdes.{IsTdesLength}
use Rattle.duk_calls.specs.Answer.{Answer, EndsIfFit, HaveLengths, HaveRoom, with_front}

abbrev pub CmacAnswers : List ℕ → List ℕ → List ℕ → List ℕ → Answer → Type 0
CmacAnswers key message old new =
    EndsIfFit (IsTdesLength (length key) × HaveRoom (old ∷ []) (8 ∷ []))
    (new ≡ with_front (cmac_of key message) old) (new ≡ old)

-- the retail MAC is that of a message of a byte at least
abbrev pub RetailMacAnswers : List ℕ → List ℕ → List ℕ → List ℕ → Answer → Type 0
RetailMacAnswers key message old new =
    EndsIfFit
    (HaveLengths (key ∷ []) (16 ∷ []) × (0 < length message) × HaveRoom (old ∷ []) (8 ∷ []))
    (new ≡ with_front (retail_of key message) old) (new ≡ old)

-- a check value of so many bytes
abbrev pub CheckValueAnswers : (List ℕ → List ℕ) → ℕ → List ℕ → List ℕ → List ℕ → Answer → Type 0
CheckValueAnswers value_of size key old new =
    EndsIfFit (IsTdesLength (length key) × HaveRoom (old ∷ []) (size ∷ []))
    (new ≡ with_front (value_of key) old) (new ≡ old)
