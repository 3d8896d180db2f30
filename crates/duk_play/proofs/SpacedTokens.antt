-- Tokens that are written one after the other, with one space between each two.
use Rattle.std.proofs.Common.{◌≡◌, ℕ, List, [], ◌∷◌, ◌++◌, refl, sym, ap, ◌∙◌, append-nil, append_assoc}
use Rattle.duk_script.specs.Script.{spaced}

spaced_push : (tokens : List (List ℕ)) (first token : List ℕ) → spaced (first ∷ tokens ++ token ∷ []) ≡ spaced (first ∷ tokens) ++ 32 ∷ token
spaced_push [] first token = refl
spaced_push (next ∷ tokens) first token =
    ap (λ rest. first ++ 32 ∷ rest) (spaced_push tokens next token) ∙ sym (append_assoc first (32 ∷ spaced (next ∷ tokens)) (32 ∷ token))

-- one token more
pub push_token : (tokens : List (List ℕ)) (first token old new : List ℕ) → old ≡ spaced (first ∷ tokens) → new ≡ old ++ 32 ∷ token
    → new ≡ spaced (first ∷ tokens ++ token ∷ [])
push_token tokens first token old new old_is new_is = new_is ∙ ap (λ line. line ++ 32 ∷ token) old_is ∙ sym (spaced_push tokens first token)

-- two tokens more
pub two_more : (tokens : List (List ℕ)) (first a b zero one two : List ℕ) → zero ≡ spaced (first ∷ tokens) → one ≡ zero ++ 32 ∷ a → two ≡ one ++ 32 ∷ b
    → two ≡ spaced (first ∷ tokens ++ a ∷ b ∷ [])
two_more tokens first a b zero one two so_far is_one is_two =
    push_token (tokens ++ a ∷ []) first b one two (push_token tokens first a zero one so_far is_one) is_two
    ∙ ap (λ rest. spaced (first ∷ rest)) (append_assoc tokens (a ∷ []) (b ∷ []))

-- three tokens more
pub three_more : (tokens : List (List ℕ)) (first a b c zero one two three : List ℕ) → zero ≡ spaced (first ∷ tokens) → one ≡ zero ++ 32 ∷ a → two ≡ one ++ 32 ∷ b → three ≡ two ++ 32 ∷ c
    → three ≡ spaced (first ∷ tokens ++ a ∷ b ∷ c ∷ [])
three_more tokens first a b c zero one two three so_far is_one is_two is_three =
    push_token (tokens ++ a ∷ b ∷ []) first c two three (two_more tokens first a b zero one two so_far is_one is_two) is_three
    ∙ ap (λ rest. spaced (first ∷ rest)) (append_assoc tokens (a ∷ b ∷ []) (c ∷ []))

-- no token more
pub none_more : (tokens : List (List ℕ)) (first zero : List ℕ) → zero ≡ spaced (first ∷ tokens) → zero ≡ spaced (first ∷ tokens ++ [])
none_more tokens first zero so_far = so_far ∙ ap (λ rest. spaced (first ∷ rest)) (sym (append-nil tokens))
