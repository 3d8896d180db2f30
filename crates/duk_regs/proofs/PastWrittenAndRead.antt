-- The bytes of past initial key serial numbers, written and read.
use Rattle.std.proofs.Common.{◌≡◌, ◌≢◌, ℕ, ◌+◌, ◌-◌, ◌*◌, ◌<◌, ◌≤◌, List, [], ◌∷◌, ◌++◌, All, AllPairs, Contains, length, take, drop, map, replicate, get_or, refl, sym, ap, subst, ◌∙◌, arith}
use Rattle.std.proofs.lemmas.List.{drop_at, drop-drop, drop-replicate, drop_more, get_or-drop, get_or-map, length-append, length-drop, length-map, length-replicate, map_more, take-append-drop, take_rest}
use Rattle.std.proofs.lemmas.List.FromFn.{fill_by_all, get_or-map-range_with_len, length-map-range_with_len, map-range_with_len_more}
use Rattle.std.proofs.lemmas.Slice.{drop-put_mid, take-put_mid}
use Rattle.std.specs.List.{concat}
use borrow.Rule.Slice.PartMut.{put_mid}
use Rattle.duk_tree.specs.Serial.{IsIksn, Serial, iksn_bytes, serial_bytes, serial_of_bytes}
use Rattle.duk_regs.specs.Image.{counted_past_in, past_bytes, past_count_in, past_in, past_of, past_serial_in, serial_in}
use Rattle.duk_regs.specs.inner.ImageParts.{IsPastPart}
use Rattle.duk_regs.proofs.PiecesInARow.{concat-push, length-concat, piece_found, pieces_from}

each_is_10 : (past : List ℕ) → ((iksn : ℕ) → length (iksn_bytes iksn) ≡ 10) → (k : ℕ) → k < length past → length (get_or (map iksn_bytes past) k []) ≡ 10
each_is_10 past ten k within = ap (λ piece. length piece) (get_or-map iksn_bytes past k 0 [] within) ∙ ten (get_or past k 0)

-- ---- written

-- one number more stands after the others
pub place_written : (past bytes part : List ℕ) (place size after default : ℕ) → place < length past → length bytes ≡ 81 → length past ≤ 8 → length part ≡ 10 → after ≡ 1 + 10 * place + 10
    → part ≡ iksn_bytes (get_or past place default)
    → take (1 + 10 * place) bytes ≡ length past ∷ concat (map iksn_bytes (take place past))
    → take after (put_mid (1 + 10 * place) size bytes part) ≡ length past ∷ concat (map iksn_bytes (take (place + 1) past))
place_written past bytes part place size after default within is_81 at_most_8 is_10 is_after is_part written =
    take-put_mid (1 + 10 * place) size bytes part after (omega arith) (omega arith)
    ∙ ap (λ front. front ++ part) written
    ∙ ap (λ more. length past ∷ (concat (map iksn_bytes (take place past)) ++ more)) is_part
    ∙ ap (λ rest. length past ∷ rest) (sym (concat-push (map iksn_bytes (take place past)) (iksn_bytes (get_or past place default))))
    ∙ ap (λ pieces. length past ∷ concat pieces) (sym (map_more iksn_bytes past place default within))

-- and zeros after it
zeros_after : (bytes : List ℕ) (place after : ℕ) → place < 8 → after ≡ 1 + 10 * place + 10 → drop (1 + 10 * place) bytes ≡ replicate (10 * (8 - place)) 0
    → drop after bytes ≡ replicate (10 * (8 - (place + 1))) 0
zeros_after bytes place after within is_after zeros =
    let left : 10 * (8 - place) - 10 ≡ 10 * (8 - (place + 1)) = omega arith in
    ap (λ n. drop n bytes) is_after
    ∙ sym (drop-drop 10 (1 + 10 * place) bytes)
    ∙ ap (drop 10) zeros
    ∙ drop-replicate 10 (10 * (8 - place)) 0
    ∙ ap (λ n. replicate n 0) left

pub zeros_left : (bytes part : List ℕ) (place size after : ℕ) → place < 8 → length bytes ≡ 81 → size ≡ 10 → length part ≡ 10 → after ≡ 1 + 10 * place + 10
    → drop (1 + 10 * place) bytes ≡ replicate (10 * (8 - place)) 0
    → drop after (put_mid (1 + 10 * place) size bytes part) ≡ replicate (10 * (8 - (place + 1))) 0
zeros_left bytes part place size after within is_81 is_size is_10 is_after zeros =
    let stays = drop-put_mid (1 + 10 * place) size bytes part after (omega arith) (omega arith) (omega arith) in
    stays ∙ zeros_after bytes place after within is_after zeros

-- the count and eight places
pub length-past_bytes : (past : List ℕ) → ((iksn : ℕ) → length (iksn_bytes iksn) ≡ 10) → length past ≤ 8 → length (past_bytes past) ≡ 81
length-past_bytes past ten at_most_8 =
    let pieces = map iksn_bytes past in
    let size = length-concat 10 pieces [] (λ k within. each_is_10 past ten k (omega (arith, length-map past iksn_bytes))) in
    omega (arith, length-append (concat pieces) (replicate (10 * (8 - length past)) 0), size, length-map past iksn_bytes, length-replicate {A = ℕ} (10 * (8 - length past)) 0)

-- ---- read

pub length-past_of : (image : List ℕ) (count : ℕ) → length (past_of image count) ≡ count
unfolding past_of
length-past_of image count = length-map-range_with_len (λ (place : ℕ). (past_serial_in image place).iksn) 0 count

pub past_of_at : (image : List ℕ) (count place default : ℕ) → place < count → get_or (past_of image count) place default ≡ (past_serial_in image place).iksn
unfolding past_of
past_of_at image count place default within = get_or-map-range_with_len (λ (place : ℕ). (past_serial_in image place).iksn) 0 count place place default within (omega arith)

pub past_of_more : (image : List ℕ) (count : ℕ) → past_of image (count + 1) ≡ past_of image count ++ (past_serial_in image count).iksn ∷ []
unfolding past_of
past_of_more image count = map-range_with_len_more (λ (place : ℕ). (past_serial_in image place).iksn) 0 count count (omega arith)

pub past_of_none : (image : List ℕ) → past_of image 0 ≡ []
unfolding past_of
past_of_none image = refl

-- version 1 has none, and version 2 those that it counts
pub no_past : (image : List ℕ) → get_or image 0 0 ≡ 1 → past_in image ≡ []
no_past image version = rw version refl

pub counted_past : (image : List ℕ) → get_or image 0 0 ≡ 2 → past_in image ≡ counted_past_in image
counted_past image version = rw version refl

-- each of these key serial numbers is written as it was read
abbrev pub AreWrittenAgain : List ℕ → Type 0
AreWrittenAgain image = (place : ℕ) → place < 8 → serial_bytes (past_serial_in image place) ≡ take 10 (drop (351 + 10 * place) image)

iksn_written : (image : List ℕ) (place : ℕ) → AreWrittenAgain image → place < 8 → (past_serial_in image place).counter ≡ 0
    → iksn_bytes (past_serial_in image place).iksn ≡ take 10 (drop (351 + 10 * place) image)
iksn_written image place again within no_counter =
    ap (λ n. serial_bytes (record { iksn = (past_serial_in image place).iksn; counter = n })) (sym no_counter) ∙ again place within

places_written : (image : List ℕ) (count : ℕ) → AreWrittenAgain image → count ≤ 8 → ((place : ℕ) → place < count → (past_serial_in image place).counter ≡ 0)
    → concat (map iksn_bytes (past_of image count)) ≡ take (10 * count) (drop 351 image)
places_written image count again at_most_8 no_counter =
    let past = past_of image count in
    ap concat
    (fill_by_all (λ (place : ℕ). take 10 (drop (351 + 10 * place) image)) (map iksn_bytes past) count [] (length-map past iksn_bytes ∙ length-past_of image count) (λ place within.
    let here : place < length past = omega (arith, length-past_of image count) in
    get_or-map iksn_bytes past place 0 [] here
    ∙ ap iksn_bytes (past_of_at image count place 0 within)
    ∙ iksn_written image place again (omega arith) (no_counter place within)))
    ∙ pieces_from 10 351 image count 0

-- what is after the places that are used
pub unused_zeros : (image : List ℕ) (count : ℕ) → length image ≡ 431 → count ≤ 8
    → take (length image - (351 + 10 * count)) (drop (351 + 10 * count) image) ≡ replicate (length (take (length image - (351 + 10 * count)) (drop (351 + 10 * count) image))) 0
    → drop (351 + 10 * count) image ≡ replicate (10 * (8 - count)) 0
unused_zeros image count is_431 at_most_8 zeros =
    let from = 351 + 10 * count in
    let whole = take_rest image from in
    let size : length image - from ≡ 10 * (8 - count) = omega arith in
    sym whole ∙ zeros ∙ ap (λ n. replicate n 0) (ap (λ (bytes : List ℕ). length bytes) whole ∙ length-drop from image ∙ size)

-- numbers that were read are written again as they were
pub past_bytes-counted_past_in : (image : List ℕ) → length image ≡ 431 → AreWrittenAgain image → IsPastPart image → past_bytes (counted_past_in image) ≡ drop 350 image
past_bytes-counted_past_in image is_431 again part =
    let count = past_count_in image in
    let past = counted_past_in image in
    ap (λ n. n ∷ (concat (map iksn_bytes past) ++ replicate (10 * (8 - n)) 0)) (length-past_of image count)
    ∙ ap (λ front. count ∷ (front ++ replicate (10 * (8 - count)) 0)) (places_written image count again part.are_at_most_8 part.counter_bits_are_zero)
    ∙ ap (λ rest. count ∷ (take (10 * count) (drop 351 image) ++ rest)) (sym part.unused_are_zero ∙ sym (drop-drop (10 * count) 351 image))
    ∙ ap (λ rest. count ∷ rest) (take-append-drop (10 * count) (drop 351 image))
    ∙ sym (drop_more image 350 0 (omega arith))

-- ---- written and read

-- an image has these numbers after its registers
pub record HasPast (image past : List ℕ) : Type 0 where
  pub ten : (iksn : ℕ) → length (iksn_bytes iksn) ≡ 10
  pub found : (iksn : ℕ) → IsIksn iksn → serial_of_bytes (iksn_bytes iksn) ≡ record { iksn = iksn; counter = 0 }
  pub iksns : All IsIksn past
  pub bytes : drop 350 image ≡ past_bytes past

pub count_found : (image past : List ℕ) → HasPast image past → past_count_in image ≡ length past
count_found image past has = sym (get_or-drop 350 image 0 0) ∙ ap (λ bytes. get_or bytes 0 0) has.bytes

are_10 : (image past : List ℕ) → HasPast image past → (k : ℕ) → k < length (map iksn_bytes past) → length (get_or (map iksn_bytes past) k []) ≡ 10
are_10 image past has k within = each_is_10 past has.ten k (omega (arith, length-map past iksn_bytes))

after_count : (image past : List ℕ) → HasPast image past → drop 351 image ≡ concat (map iksn_bytes past) ++ replicate (10 * (8 - length past)) 0
after_count image past has = sym (drop-drop 1 350 image) ∙ ap (drop 1) has.bytes

past_serial_found : (image past : List ℕ) (place : ℕ) → HasPast image past → place < length past → past_serial_in image place ≡ record { iksn = get_or past place 0; counter = 0 }
past_serial_found image past place has within =
    let inside : place < length (map iksn_bytes past) = omega (arith, length-map past iksn_bytes) in
    ap (λ bytes. serial_of_bytes (take 10 bytes)) (sym (drop-drop (10 * place) 351 image) ∙ ap (drop (10 * place)) (after_count image past has))
    ∙ ap serial_of_bytes (piece_found 10 (map iksn_bytes past) (replicate (10 * (8 - length past)) 0) place [] (are_10 image past has) inside ∙ get_or-map iksn_bytes past place 0 [] within)
    ∙ has.found (get_or past place 0) (has.iksns place 0 within)

pub past_found : (image past : List ℕ) → HasPast image past → counted_past_in image ≡ past
unfolding past_of
past_found image past has =
    ap (past_of image) (count_found image past has)
    ∙ sym (fill_by_all (λ (place : ℕ). (past_serial_in image place).iksn) past (length past) 0 refl (λ place within. sym (ap (λ (serial : Serial). serial.iksn) (past_serial_found image past place has within))))

unused_found : (image past : List ℕ) → HasPast image past → drop (351 + 10 * length past) image ≡ replicate (10 * (8 - length past)) 0
unused_found image past has =
    let pieces = map iksn_bytes past in
    sym (drop-drop (10 * length past) 351 image)
    ∙ ap (drop (10 * length past)) (after_count image past has)
    ∙ drop_at (concat pieces) (replicate (10 * (8 - length past)) 0) (10 * length past) (length-concat 10 pieces [] (are_10 image past has) ∙ ap (λ n. 10 * n) (length-map past iksn_bytes))

pub IsPastPart-written : (image past : List ℕ) → HasPast image past → length past ≤ 8 → AllPairs (λ one other. one ≢ other) past → ¬ Contains past (serial_in image).iksn → IsPastPart image
IsPastPart-written image past has at_most_8 different not_past =
    let count = count_found image past has in
    let same : past ≡ counted_past_in image = sym (past_found image past has) in
    record {
      are_at_most_8 = omega arith;
      counter_bits_are_zero = λ place within. ap (λ (serial : Serial). serial.counter) (past_serial_found image past place has (omega arith));
      are_different = subst (AllPairs (λ (one other : ℕ). one ≢ other)) same different;
      iksn_is_not_past = subst (λ (list : List ℕ). ¬ Contains list (serial_in image).iksn) same not_past;
      unused_are_zero = subst (λ (n : ℕ). drop (351 + 10 * n) image ≡ replicate (10 * (8 - n)) 0) (sym count) (unused_found image past has);
    }
