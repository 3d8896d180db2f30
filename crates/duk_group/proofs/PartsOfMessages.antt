-- Messages of a few blocks, and their parts.
use Rattle.std.proofs.Common.{◌≡◌, ℕ, Bool, List, [], ◌∷◌, ◌++◌, length, take, drop, get_or, refl, sym, ap, ◌∙◌, arith}
use Rattle.std.proofs.lemmas.List.{append-nil, append_assoc, take_all}
use Rattle.std.proofs.Math.Seq.{take-add}
use Rattle.duk_group.specs.Blocks.{block_of, message_in}

-- a message of three blocks
pub message_of_three : {L : Type 0} (lane : L → ℕ → Bool) (i : ℕ) (blocks : List (List L)) → length blocks ≡ 3
    → message_in lane i blocks
    ≡ block_of lane i (get_or blocks 0 []) ++ (block_of lane i (get_or blocks 1 []) ++ (block_of lane i (get_or blocks 2 []) ++ []))
message_of_three lane i (a ∷ b ∷ c ∷ []) three = refl
message_of_three lane i [] three = absurd (omega arith)
message_of_three lane i (a ∷ []) three = absurd (omega arith)
message_of_three lane i (a ∷ b ∷ []) three = absurd (omega arith)
message_of_three lane i (a ∷ b ∷ c ∷ d ∷ blocks) three = absurd (omega arith)

-- three pieces one after another, with and without nothing behind them
pub three_appended : (a b c : List ℕ) → a ++ (b ++ (c ++ [])) ≡ a ++ b ++ c
three_appended a b c = ap (λ third. a ++ (b ++ third)) (append-nil c) ∙ sym (append_assoc a b c)

-- bytes of three blocks are these blocks one after another
pub three_parts : (bytes : List ℕ) → length bytes ≡ 24
    → take 8 (drop 0 bytes) ++ (take 8 (drop 8 bytes) ++ (take 8 (drop 16 bytes) ++ [])) ≡ bytes
three_parts bytes long =
    three_appended (take 8 bytes) (take 8 (drop 8 bytes)) (take 8 (drop 16 bytes))
    ∙ ap (λ front. front ++ take 8 (drop 16 bytes)) (sym (take-add 8 8 bytes))
    ∙ sym (take-add 16 8 bytes)
    ∙ take_all 24 bytes (omega arith)
