-- A list with one more group of its front written.
use Rattle.std.proofs.Common.{◌≡◌, ℕ, ◌+◌, ◌≤◌, List, ◌++◌, length, map, take, drop, sym, ap, ap₂, ◌∙◌, arith, rules}
use Rattle.std.proofs.lemmas.Slice.{take-put_mid}
use Rattle.std.proofs.lemmas.List.{places, map-append}
use Rattle.std.proofs.Math.Seq.{take-add}
use borrow.Rule.Slice.PartMut.{put_mid}

module _ {X Y : Type 0} (f : X → Y) where
  pub group_written : (xs : List X) (ys part : List Y) (done count width : ℕ) → done ≤ length ys → length part ≡ count
      → take done ys ≡ map f (take done xs)
      → part ≡ map f (take count (drop done xs))
      → take (done + count) (put_mid done width ys part) ≡ map f (take (done + count) xs)
  group_written xs ys part done count width within long known is =
      take-put_mid done width ys part (done + count) (omega arith) within
      ∙ ap₂ (λ (front back : List Y). front ++ back) known is
      ∙ sym (map-append f (take done xs) (take count (drop done xs)))
      ∙ ap (map f) (sym (take-add done count xs))

pub length-written : {X : Type 0} (done width : ℕ) (ys part : List X) → length part ≡ width → done + width ≤ length ys → length (put_mid done width ys part) ≡ length ys
length-written done width ys part fits within = search (rules, places)
