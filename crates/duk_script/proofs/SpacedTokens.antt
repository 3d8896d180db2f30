-- Tokens that are written one after the other, with one space between each two.
use Rattle.std.proofs.Common.{◌≡◌, ℕ, List, [], ◌∷◌, ◌++◌, append_assoc}
use Rattle.duk_script.specs.Script.{spaced}

pub three_tokens : (a b c one two three : List ℕ) → one ≡ a → two ≡ one ++ 32 ∷ b → three ≡ two ++ 32 ∷ c
    → three ≡ spaced (a ∷ b ∷ c ∷ [])
three_tokens a b c one two three e1 e2 e3 = rw (e3, e2, e1) (simp append_assoc)

pub fifth_token : (a b c d e four five : List ℕ) → four ≡ spaced (a ∷ b ∷ c ∷ d ∷ []) → five ≡ four ++ 32 ∷ e
    → five ≡ spaced (a ∷ b ∷ c ∷ d ∷ e ∷ [])
fifth_token a b c d e four five e4 e5 = rw (e5, e4) (simp append_assoc)
