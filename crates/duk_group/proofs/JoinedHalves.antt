-- A key of sixteen bytes and its halves.
use Rattle.std.proofs.Common.{◌≡◌, ℕ, List, [], ◌++◌, length, take, drop, refl, sym, subst, ◌∙◌, arith}
use Rattle.std.proofs.lemmas.List.{take-append-le, take_all, drop_all, append-nil, length-drop, length-append}
use Rattle.std.proofs.Math.Seq.{take-add}
use borrow.Rule.Slice.PartMut.{put_mid}
use Rattle.duk_des.specs.Block.{IsBlock}
use Rattle.duk_tdes.specs.Key.{IsKey}
use Rattle.duk_tdes.specs.Tdes.{first_key, second_key}

pub halves_joined : (key : List ℕ) → length key ≡ 16 → first_key key ++ second_key key ≡ key
halves_joined key sixteen = sym (take-add 8 8 key) ∙ take_all 16 key (omega (arith, sixteen))

-- two blocks written into the halves of sixteen bytes
pub put_mid-joined : (left right zeros : List ℕ) → length left ≡ 8 → length zeros ≡ 8 → put_mid 8 8 (left ++ zeros) right ≡ left ++ right
put_mid-joined left right zeros eight eight_zeros =
    let front : take 8 (left ++ zeros) ≡ left = take-append-le 8 left zeros (omega arith) ∙ take_all 8 left (omega arith) in
    let rest : drop 8 (drop 8 (left ++ zeros)) ≡ [] = drop_all 8 (drop 8 (left ++ zeros)) (simp (length-drop, length-append) (omega arith)) in
    rw (front, rest, append-nil) refl

-- a key of eight bytes is a block
pub half_block : {key bytes : List ℕ} → IsKey 8 key → bytes ≡ key → IsBlock bytes
half_block is_key same = let P : List ℕ → Type 0 = IsBlock in subst P (sym same) (record { eight = is_key.size_is; bytes_fit = is_key.bytes_fit })

-- two blocks that are a key's halves
pub record AreHalvesOf (key left right : List ℕ) : Type 0 where
  pub joined : left ++ right ≡ key
  pub left_block : IsBlock left
  pub right_block : IsBlock right
