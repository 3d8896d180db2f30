-- What stands where in a terminal's image.
use Rattle.std.proofs.Common.{◌≡◌, ◌+◌, ◌*◌, ◌<◌, ◌∷◌, ◌++◌, [], inl, inr, refl, ℕ, List, Bool, length, take, drop, slice_index, ap, sym, ◌∙◌, add-one, append_assoc, arith}
use Rattle.std.specs.List.{flat_map}
use Rattle.std.proofs.lemmas.Grind.{flat_map-append}
use Rattle.std.proofs.lemmas.List.{append-nil}
use Rattle.std.proofs.lemmas.List.FromFn.{get_or-map-range_with_len, length-map-range_with_len, map-range_with_len_more}
use Rattle.duk_regs.specs.Image.{IsImage, IsImageOfVersion1, IsImageOfVersion2, image_bytes, past_count_in, past_in, past_of, past_serial_in, registers_in, set_in}
use Rattle.duk_regs.specs.Registers.{HaveSixteenBytes, IsRegisterSet, RegisterSet, empty_register, register_at}
use Rattle.duk_show.specs.Image.{past_line, register_line, register_lines}
use Rattle.duk_show.specs.inner.Image.{AreImageBytes}

-- a register's bytes
register_in : (image : List ℕ) (place : ℕ) → place < 21 → register_at (registers_in image) place ≡ take 16 (drop (14 + 16 * place) image)
unfolding registers_in
register_in image place within =
    get_or-map-range_with_len (λ (place : ℕ). take 16 (drop (14 + 16 * place) image)) 0 21 place place empty_register within (omega arith)

-- the line of one more register
pub registers_more : (show : Bool) (image register : List ℕ) (place : ℕ) (before now after : List ℕ) → place < 21
    → now ≡ before ++ register_lines show (registers_in image) place
    → register ≡ take 16 (drop (14 + 16 * place) image)
    → after ≡ now ++ register_line show place register
    → after ≡ before ++ register_lines show (registers_in image) (place + 1)
registers_more show image register place before now after within lines is line =
    let known : register ≡ register_at (registers_in image) place = is ∙ sym (register_in image place within) in
    let one : List ℕ = register_line show place (register_at (registers_in image) place) in
    rw add-one (
    line ∙ ap (λ (r : List ℕ). now ++ register_line show place r) known
    ∙ ap (λ (front : List ℕ). front ++ one) lines
    ∙ append_assoc before (register_lines show (registers_in image) place) one
    )

-- no past number
pub no_past : (image : List ℕ) → flat_map past_line (past_of image 0) ≡ []
unfolding past_of
no_past image = refl

past_push : (image : List ℕ) (place : ℕ) → past_of image (place + 1) ≡ past_of image place ++ (past_serial_in image place).iksn ∷ []
unfolding past_of
past_push image place = map-range_with_len_more (λ (place : ℕ). (past_serial_in image place).iksn) 0 place place (omega arith)

-- the line of one more
pub past_more : (image : List ℕ) (place iksn : ℕ) (before now after : List ℕ) → now ≡ before ++ flat_map past_line (past_of image place)
    → iksn ≡ (past_serial_in image place).iksn → after ≡ now ++ past_line iksn
    → after ≡ before ++ flat_map past_line (past_of image (place + 1))
past_more image place iksn before now after lines is line =
    let known = (past_serial_in image place).iksn in
    let one : List ℕ = past_line known in
    let all : flat_map past_line (past_of image (place + 1)) ≡ flat_map past_line (past_of image place) ++ one =
    ap (flat_map past_line) (past_push image place)
    ∙ flat_map-append past_line (past_of image place) (known ∷ [])
    ∙ ap (λ (last : List ℕ). flat_map past_line (past_of image place) ++ last) (append-nil one) in
    line ∙ ap (λ (n : ℕ). now ++ past_line n) is
    ∙ ap (λ (front : List ℕ). front ++ one) lines
    ∙ append_assoc before (flat_map past_line (past_of image place)) one
    ∙ ap (λ (lines : List ℕ). before ++ lines) (sym all)

length-past_of : (image : List ℕ) (count : ℕ) → length (past_of image count) ≡ count
unfolding past_of
length-past_of image count = length-map-range_with_len (λ (place : ℕ). (past_serial_in image place).iksn) 0 count

-- as many past numbers as version 2 counts
counted : (image : List ℕ) → slice_index image 0 ≡ 2 → length (past_in image) ≡ past_count_in image
counted image two = rw two (length-past_of image (past_count_in image))

-- what is known of an image's bytes
pub known : ((image : List ℕ) → IsImageOfVersion1 image → length image ≡ 350) → ((image : List ℕ) → IsImageOfVersion2 image → length image ≡ 431)
    → ((set : RegisterSet) → IsRegisterSet set → HaveSixteenBytes set.registers → set_in (image_bytes set) ≡ set)
    → (bytes : List ℕ) → IsImage bytes → AreImageBytes bytes
known size_1 size_2 read bytes (inl is) =
    let first : slice_index bytes 0 ≡ 1 = ap (λ (b : List ℕ). slice_index b 0) is.bytes_are in
    record {
      least = omega (arith, size_1 bytes is);
      version = inl first;
      few = λ two. absurd (omega (arith, first, two));
    }
known size_1 size_2 read bytes (inr is) =
    let first : slice_index bytes 0 ≡ 2 = ap (λ (b : List ℕ). slice_index b 0) is.bytes_are in
    let same : set_in bytes ≡ is.set = ap set_in is.bytes_are ∙ read is.set is.set_is is.are_16 in
    let past : length (past_in bytes) ≡ length is.set.past = ap (λ (set : RegisterSet). length set.past) same in
    record {
      least = omega (arith, size_2 bytes is);
      version = inr (first, size_2 bytes is);
      few = λ two. omega (arith, counted bytes two, past, is.set_is.past_are_at_most_8);
    }
