use Rattle.std.proofs.Common.{◌≡◌, List, [], ◌++◌, length, take, drop, refl, ◌∙◌, arith}
use Rattle.std.proofs.lemmas.List.{take-append-le, take_all, drop_all, append-nil, length-drop, length-append}
use borrow.Rule.Slice.PartMut.{put_mid}
use Rattle.duk_lanes.proofs.wide.joined.Goals as goal

-- two lists of 64 written into the halves of one
put_mid-joined : {X : Type 0} (first second rest : List X) → length first ≡ 64 → length rest ≡ 64 → put_mid 64 64 (first ++ rest) second ≡ first ++ second
put_mid-joined first second rest long long_rest =
    let front : take 64 (first ++ rest) ≡ first = take-append-le 64 first rest (omega arith) ∙ take_all 64 first (omega arith) in
    let none : drop 64 (drop 64 (first ++ rest)) ≡ [] = drop_all 64 (drop 64 (first ++ rest)) (simp (length-drop, length-append) (omega arith)) in
    rw (front, none, append-nil) refl

pub returns : goal.returns
returns c =
    let first = c.copy_from_slice.ensures in
    let second = c.copy_from_slice-2.ensures in
    put_mid-joined c.copy_from_slice.new.self c.copy_from_slice-2.new.self _ first.len refl ∙ rw (first.after, second.after) refl
