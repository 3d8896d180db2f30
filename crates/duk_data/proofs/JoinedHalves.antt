-- Two blocks in the halves of sixteen bytes.
use Rattle.std.proofs.Common.{◌≡◌, ℕ, List, [], ◌++◌, length, take, drop, refl, ◌∙◌, arith}
use Rattle.std.proofs.lemmas.List.{take-append-le, take_all, drop_all, append-nil, length-drop, length-append}
use borrow.Rule.Slice.PartMut.{put_mid}

pub put_mid-joined : (left right zeros : List ℕ) → length left ≡ 8 → length zeros ≡ 8 → put_mid 8 8 (left ++ zeros) right ≡ left ++ right
put_mid-joined left right zeros eight eight_zeros =
    let front : take 8 (left ++ zeros) ≡ left = take-append-le 8 left zeros (omega arith) ∙ take_all 8 left (omega arith) in
    let rest : drop 8 (drop 8 (left ++ zeros)) ≡ [] = drop_all 8 (drop 8 (left ++ zeros)) (simp (length-drop, length-append) (omega arith)) in
    rw (front, rest, append-nil) refl
