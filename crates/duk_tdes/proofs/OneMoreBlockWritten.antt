-- A list with one more block of its front written.
use Rattle.std.proofs.Common.{◌≡◌, ℕ, ◌+◌, ◌≤◌, List, ◌++◌, length, take, drop, ap, ◌∙◌, append_assoc, arith, rules}
use Rattle.std.proofs.lemmas.Slice.{take-put_mid, drop-put_mid}
use Rattle.std.proofs.lemmas.List.{places}
use borrow.Rule.Slice.PartMut.{put_mid}

-- what is written, and after it what becomes of the rest
pub written : (rest_of : List ℕ → List ℕ) (place width : ℕ) (bytes block : List ℕ) → length block ≡ 8 → width ≡ 8 → place ≤ length bytes
    → take (place + 8) (put_mid place width bytes block) ++ rest_of (drop (place + 8) (put_mid place width bytes block)) ≡ take place bytes ++ (block ++ rest_of (drop (place + 8) bytes))
written rest_of place width bytes block eight wide within =
    ap (λ front. front ++ rest_of (drop (place + 8) (put_mid place width bytes block))) (take-put_mid place width bytes block (place + 8) (omega arith) within)
    ∙ ap (λ rest. (take place bytes ++ block) ++ rest_of rest) (drop-put_mid place width bytes block (place + 8) (omega arith) within (omega arith))
    ∙ append_assoc (take place bytes) block (rest_of (drop (place + 8) bytes))

pub length-written : (place width : ℕ) (bytes block : List ℕ) → length block ≡ width → place + width ≤ length bytes → length (put_mid place width bytes block) ≡ length bytes
length-written place width bytes block fits within = search (rules, places)
