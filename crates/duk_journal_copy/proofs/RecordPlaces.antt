-- The records of a list of which one is written.
use Rattle.std.proofs.Common.{◌≡◌, ◌∙◌, ◌+◌, ◌*◌, ◌-◌, ◌<◌, ◌≤◌, ℕ, List, ap, arith, drop, length, sym, take}
use Rattle.std.proofs.lemmas.Slice.{between-put_mid, between_is, drop-put_mid, take-put_mid_below}
use borrow.Rule.Slice.PartMut.{put_mid}
use Rattle.duk_journal.specs.RecordFormat.{record_at}

pub record_is : (place : ℕ) (xs : List ℕ) → record_at place xs ≡ drop (32 * place) (take (32 * place + 32) xs)
record_is place xs =
    let same : 32 ≡ 32 * place + 32 - 32 * place = omega arith in
    ap (λ (n : ℕ). take n (drop (32 * place) xs)) same ∙ between_is xs (32 * place) (32 * place + 32)

module _ (at k : ℕ) (xs ys : List ℕ) (inside : 32 * at + 32 ≤ length xs) (is : k ≡ 32) (long : length ys ≡ 32) where
  abbrev put : List ℕ
  put = put_mid (32 * at) k xs ys

  pub record_before : (place : ℕ) → place < at → record_at place put ≡ record_at place xs
  record_before place less =
      record_is place put
      ∙ ap (drop (32 * place)) (take-put_mid_below (32 * at) k xs ys (32 * place + 32) (omega (arith, less)) (omega (arith, inside)))
      ∙ sym (record_is place xs)

  pub record_put : record_at at put ≡ ys
  record_put =
      let same : 32 ≡ 32 * at + 32 - 32 * at = omega arith in
      ap (λ (n : ℕ). take n (drop (32 * at) put)) same
      ∙ between-put_mid (32 * at) k xs ys (32 * at + 32) (omega (arith, inside)) (omega (arith, long))

  pub record_after : (place : ℕ) → at < place → record_at place put ≡ record_at place xs
  record_after place more =
      ap (take 32) (drop-put_mid (32 * at) k xs ys (32 * place) (omega (arith, is, more)) (omega (arith, inside)) (omega (arith, is, long)))
