-- The bytes of an image, written and read.
use Rattle.std.proofs.Common.{◌≡◌, ◌≢◌, ◌⊎◌, ℕ, ◌+◌, ◌*◌, ◌/◌, ◌%◌, ◌<◌, ◌≤◌, ◌^◌, List, [], ◌∷◌, ◌++◌, length, take, drop, get_or, refl, sym, ap, subst, ◌∙◌, All, Contains, arith, inl, inr}
use Rattle.std.proofs.lemmas.List.{append_assoc, append-nil, length-append, length-drop, length-take, length-take-le, take_more, take_all, drop_all, take_at, drop_at, drop-drop, take-append-drop, get_or-drop, get_or-take, get_or_default}
use Rattle.std.proofs.lemmas.Bool.{cases_lt}
use Rattle.std.proofs.lemmas.Slice.{take-put_mid}
use Rattle.std.proofs.lemmas.List.FromFn.{fill_by_all, get_or-map-range_with_len, length-map-range_with_len}
use Rattle.std.specs.List.{concat}
use Rattle.byteorder.specs.Numbers.{big_number-reads_back}
use borrow.Rule.Slice.PartMut.{put_mid}
use Rattle.byteorder.specs.Endian.{big_bytes, big_number}
use Rattle.duk_tree.specs.Serial.{IsIksn, Serial, serial_bytes, serial_of_bytes, iksn_bytes}
use Rattle.duk_regs.specs.Registers.{HaveSixteenBytes, IsRegisterSet, RegisterSet, LeavesEmpty, register_at, empty_register}
use Rattle.duk_tree.specs.Path.{IsUsable}
use Rattle.duk_tree.specs.Next.{spent_counter}
use Rattle.duk_regs.specs.Image.{IsImage, counted_past_in, counter_in, image_bytes, image_bytes_of_version_1, past_bytes, past_count_in, past_in, present_bytes, registers_in, serial_in, set_in}
use Rattle.duk_regs.specs.inner.ImageParts.{HasImageParts, HasPartsOfVersion1, HasPartsOfVersion2, IsPastPart, IsPresentPart}
use Rattle.duk_regs.proofs.CounterBounds.{BitLaws, counter_bounds}
use Rattle.duk_regs.proofs.PiecesInARow.{concat-push, length-concat, length-put_mid, part_length, piece_found, pieces_from, take-add}
use Rattle.duk_regs.proofs.PastWrittenAndRead.{HasPast, IsPastPart-written, counted_past, length-past_bytes, length-past_of, no_past, past_found}

-- ---- written

-- one register more
pub present_more : (iksn counter place : ℕ) (registers : List (List ℕ)) (default : List ℕ) → place < length registers
    → present_bytes (record { iksn = iksn; counter = counter; registers = take (place + 1) registers; past = [] })
    ≡ present_bytes (record { iksn = iksn; counter = counter; registers = take place registers; past = [] }) ++ get_or registers place default
present_more iksn counter place registers default within =
    let register = get_or registers place default in
    let front = concat (take place registers) in
    ap (λ rest. iksn_bytes iksn ++ (big_bytes 3 counter ++ concat rest)) (take_more registers place default within)
    ∙ ap (λ rest. iksn_bytes iksn ++ (big_bytes 3 counter ++ rest)) (concat-push (take place registers) register)
    ∙ ap (λ rest. iksn_bytes iksn ++ rest) (sym (append_assoc (big_bytes 3 counter) front register))
    ∙ sym (append_assoc (iksn_bytes iksn) (big_bytes 3 counter ++ front) register)

pub register_length : (image bytes : List ℕ) (start size : ℕ) → length image ≡ 350 → start + size ≤ 350 → length bytes ≡ size → length (put_mid start size image bytes) ≡ 350
register_length image bytes start size is_350 within is_size = length-put_mid start size image bytes (omega arith) is_size ∙ is_350

pub register_written : (image bytes : List ℕ) (start size after : ℕ) → length image ≡ 350 → start + 16 ≤ 350 → length bytes ≡ 16 → after ≡ start + 16
    → take after (put_mid start size image bytes) ≡ take start image ++ bytes
register_written image bytes start size after is_350 within is_16 is_after = take-put_mid start size image bytes after (omega arith) (omega arith)

-- nothing is after the part that was written
pub rest_gone : (start size : ℕ) (xs : List ℕ) → drop size (take size (drop start xs)) ≡ []
rest_gone start size xs = drop_all size (take size (drop start xs)) (omega (arith, length-take size (drop start xs)))

-- one register more has sixteen bytes
pub more_16 : (registers : List (List ℕ)) (at : ℕ) (default : List ℕ) → at < length registers → length (get_or registers at default) ≡ 16
    → ((place : ℕ) → place < at → length (register_at registers place) ≡ 16)
    → (place : ℕ) → place < at + 1 → length (register_at registers place) ≡ 16
more_16 registers at default within is_16 are_16 place below =
    elim (cases_lt place at) [
      | inl earlier ↦ are_16 place earlier
      | inr here ↦
          let same : place ≡ at = omega arith in
          ap (λ n. length (register_at registers n)) same ∙ ap length (get_or_default registers at empty_register default within) ∙ is_16
    ]

-- the bytes before the registers
pub header_written : (zeros serial counter : List ℕ) → length zeros ≡ 349 → length serial ≡ 10 → length counter ≡ 3
    → take 14 (put_mid 11 3 (put_mid 1 10 (2 ∷ zeros) serial) counter) ≡ 2 ∷ (serial ++ counter)
header_written zeros serial counter long ten three =
    let first = put_mid 1 10 (2 ∷ zeros) serial in
    take-put_mid 11 3 first counter 14 (omega arith) (omega (arith, length-put_mid 1 10 (2 ∷ zeros) serial (omega arith) ten))
    ∙ ap (λ front. front ++ counter) (take-put_mid 1 10 (2 ∷ zeros) serial 11 (omega arith) (omega arith))

pub header_length : (zeros serial counter : List ℕ) → length zeros ≡ 349 → length serial ≡ 10 → length counter ≡ 3
    → length (put_mid 11 3 (put_mid 1 10 (2 ∷ zeros) serial) counter) ≡ 350
header_length zeros serial counter long ten three =
    let first = put_mid 1 10 (2 ∷ zeros) serial in
    let first_length = length-put_mid 1 10 (2 ∷ zeros) serial (omega arith) ten in
    length-put_mid 11 3 first counter (omega arith) three ∙ first_length ∙ omega arith

-- both parts
pub parts_written : (zeros front back : List ℕ) → length zeros ≡ 431 → length front ≡ 350 → length back ≡ 81 → put_mid 350 81 (front ++ drop 350 zeros) back ≡ front ++ back
parts_written zeros front back is_431 is_350 is_81 =
    let rest = drop 350 zeros in
    ap (λ first. first ++ (back ++ drop 81 (drop 350 (front ++ rest)))) (take_at front rest 350 is_350)
    ∙ ap (λ last. front ++ (back ++ drop 81 last)) (drop_at front rest 350 is_350)
    ∙ ap (λ last. front ++ (back ++ last)) (drop_all 81 rest (omega (arith, length-drop 350 zeros)))
    ∙ ap (λ last. front ++ last) (append-nil back)

-- ---- read

-- three bytes, read and written
three_bytes : (bytes : List ℕ) → length bytes ≡ 3 → ((i : ℕ) → i < 3 → get_or bytes i 0 < 2 ^ 8) → big_bytes 3 (big_number 3 bytes) ≡ bytes
three_bytes [] three fit = absurd (omega arith)
three_bytes (a ∷ []) three fit = absurd (omega arith)
three_bytes (a ∷ (b ∷ [])) three fit = absurd (omega arith)
three_bytes (a ∷ (b ∷ (d ∷ (e ∷ rest)))) three fit = absurd (omega arith)
three_bytes (a ∷ (b ∷ (d ∷ []))) three fit =
    let first : a < 2 ^ 8 = fit 0 (omega arith) in
    let second : b < 2 ^ 8 = fit 1 (omega arith) in
    let third : d < 2 ^ 8 = fit 2 (omega arith) in
    let high : (a * 65536 + (b * 256 + (d * 1 + 0))) / 65536 % 256 ≡ a = omega arith in
    let middle : (a * 65536 + (b * 256 + (d * 1 + 0))) / 256 % 256 ≡ b = omega arith in
    let low : (a * 65536 + (b * 256 + (d * 1 + 0))) % 256 ≡ d = omega arith in
    rw (high, middle, low) refl

first_byte : (image : List ℕ) → 0 < length image → image ≡ get_or image 0 0 ∷ drop 1 image
first_byte [] some = absurd (omega arith)
first_byte (byte ∷ image) some = refl

registers_whole : (image : List ℕ) → concat (registers_in image) ≡ take 336 (drop 14 image)
unfolding registers_in
registers_whole image = pieces_from 16 14 image 21 0

-- what was read before the past numbers is written again as it was
pub present_bytes-set_in : (image : List ℕ) → 350 ≤ length image → ((i : ℕ) → get_or image i 0 < 2 ^ 8)
    → serial_bytes (serial_in image) ≡ take 10 (drop 1 image) → (serial_in image).counter ≡ 0
    → present_bytes (set_in image) ≡ take 349 (drop 1 image)
present_bytes-set_in image long fit serial no_counter =
    let iksn : iksn_bytes (serial_in image).iksn ≡ take 10 (drop 1 image) = ap (λ n. serial_bytes (record { iksn = (serial_in image).iksn; counter = n })) (sym no_counter) ∙ serial in
    let counter : big_bytes 3 (counter_in image) ≡ take 3 (drop 11 image) =
    three_bytes (take 3 (drop 11 image)) (length-take-le 3 (drop 11 image) (omega (arith, length-drop 11 image))) (λ i within. subst (λ byte. byte < 2 ^ 8) (sym (get_or-take 3 (drop 11 image) i 0 within ∙ get_or-drop 11 image i 0)) (fit (11 + i))) in
    let rest : take 3 (drop 11 image) ++ take 336 (drop 14 image) ≡ take 339 (drop 11 image) = ap (λ rest. take 3 (drop 11 image) ++ take 336 rest) (sym (drop-drop 3 11 image)) ∙ sym (take-add 3 336 (drop 11 image)) in
    let whole : take 10 (drop 1 image) ++ take 339 (drop 11 image) ≡ take 349 (drop 1 image) = ap (λ rest. take 10 (drop 1 image) ++ take 339 rest) (sym (drop-drop 10 1 image)) ∙ sym (take-add 10 339 (drop 1 image)) in
    ap (λ registers. iksn_bytes (serial_in image).iksn ++ (big_bytes 3 (counter_in image) ++ registers)) (registers_whole image)
    ∙ ap (λ counter. iksn_bytes (serial_in image).iksn ++ (counter ++ take 336 (drop 14 image))) counter
    ∙ ap (λ rest. iksn_bytes (serial_in image).iksn ++ rest) rest
    ∙ ap (λ serial. serial ++ take 339 (drop 11 image)) iksn
    ∙ whole

-- both parts, after the version
pub version_2_again : (image present past : List ℕ) → length image ≡ 431 → get_or image 0 0 ≡ 2 → present ≡ take 349 (drop 1 image) → past ≡ drop 350 image
    → 2 ∷ (present ++ past) ≡ image
version_2_again image present past is_431 version is_present is_past =
    ap (λ front. 2 ∷ (front ++ past)) is_present
    ∙ ap (λ rest. 2 ∷ (take 349 (drop 1 image) ++ rest)) (is_past ∙ sym (drop-drop 349 1 image))
    ∙ ap (λ rest. 2 ∷ rest) (take-append-drop 349 (drop 1 image))
    ∙ ap (λ version. version ∷ drop 1 image) (sym version)
    ∙ sym (first_byte image (omega arith))

pub version_1_again : (image present : List ℕ) → length image ≡ 350 → get_or image 0 0 ≡ 1 → present ≡ take 349 (drop 1 image) → 1 ∷ present ≡ image
version_1_again image present is_350 version is_present =
    ap (λ rest. 1 ∷ rest) (is_present ∙ take_all 349 (drop 1 image) (omega (arith, length-drop 1 image)))
    ∙ ap (λ version. version ∷ drop 1 image) (sym version)
    ∙ sym (first_byte image (omega arith))

-- a known version has its length
abbrev pub HasVersion : List ℕ → Type 0
HasVersion image = ((length image ≡ 350) × (get_or image 0 0 ≡ 1)) ⊎ ((length image ≡ 431) × (get_or image 0 0 ≡ 2))

pub length_of_version_1 : (image : List ℕ) → HasVersion image → get_or image 0 0 ≡ 1 → length image ≡ 350
length_of_version_1 image known version = elim known [ inl one ↦ one.0 | inr two ↦ absurd (omega (arith, two.1)) ]

pub length_of_version_2 : (image : List ℕ) → HasVersion image → get_or image 0 0 ≢ 1 → length image ≡ 431
length_of_version_2 image known other = elim known [ inl one ↦ absurd (other one.1) | inr two ↦ two.0 ]

pub is_version_2 : (image : List ℕ) → HasVersion image → get_or image 0 0 ≢ 1 → get_or image 0 0 ≡ 2
is_version_2 image known other = elim known [ inl one ↦ absurd (other one.1) | inr two ↦ two.1 ]

-- what was read, part by part
pub parts_read : (image : List ℕ) (iksn counter : ℕ) (registers : List (List ℕ)) (past : List ℕ)
    → iksn ≡ (serial_in image).iksn → counter ≡ counter_in image → registers ≡ registers_in image → past ≡ past_in image
    → record { iksn = iksn; counter = counter; registers = registers; past = past } ≡ set_in image
parts_read image iksn counter registers past is_iksn is_counter are_registers is_past =
    ap (λ (n : ℕ). record { iksn = n; counter = counter; registers = registers; past = past }) is_iksn
    ∙ ap (λ (n : ℕ). record { iksn = (serial_in image).iksn; counter = n; registers = registers; past = past }) is_counter
    ∙ ap (λ (list : List (List ℕ)). record { iksn = (serial_in image).iksn; counter = counter_in image; registers = list; past = past }) are_registers
    ∙ ap (λ (list : List ℕ). record { iksn = (serial_in image).iksn; counter = counter_in image; registers = registers_in image; past = list }) is_past

pub length-registers_in : (image : List ℕ) → length (registers_in image) ≡ 21
unfolding registers_in
length-registers_in image = length-map-range_with_len (λ (place : ℕ). take 16 (drop (14 + 16 * place) image)) 0 21

pub set_of_version_1 : (image : List ℕ) → IsPresentPart image → IsIksn (serial_in image).iksn → get_or image 0 0 ≡ 1 → IsRegisterSet (set_in image)
set_of_version_1 image present is_iksn version =
    let none : length (past_in image) ≡ 0 = ap (λ (past : List ℕ). length past) (no_past image version) in
    record {
      iksn_is = is_iksn;
      counter_is = present.counter_is;
      are_21 = length-registers_in image;
      leaves_empty = present.leaves_empty;
      past_are_iksns = λ k d within. absurd (omega arith);
      past_are_at_most_8 = omega arith;
      past_are_different = λ i j d below within. absurd (omega arith);
      iksn_is_not_past = λ found. absurd (omega (arith, found.1));
    }

pub set_of_version_2 : (image : List ℕ) → IsPresentPart image → IsIksn (serial_in image).iksn → IsPastPart image → All IsIksn (counted_past_in image) → get_or image 0 0 ≡ 2 → IsRegisterSet (set_in image)
set_of_version_2 image present is_iksn part iksns version = subst (λ (past : List ℕ). IsRegisterSet (record { iksn = (serial_in image).iksn; counter = counter_in image; registers = registers_in image; past = past })) (sym (counted_past image version)) (record {
  iksn_is = is_iksn;
  counter_is = present.counter_is;
  are_21 = length-registers_in image;
  leaves_empty = present.leaves_empty;
  past_are_iksns = iksns;
  past_are_at_most_8 = omega (arith, length-past_of image (past_count_in image), part.are_at_most_8);
  past_are_different = part.are_different;
  iksn_is_not_past = part.iksn_is_not_past;
})

-- ---- written and read

-- a set of registers of sixteen bytes, and how its key serial numbers are written
pub record IsWritable (set : RegisterSet) : Type 0 where
  pub ten : (iksn : ℕ) → length (iksn_bytes iksn) ≡ 10
  pub found : (iksn : ℕ) → IsIksn iksn → serial_of_bytes (iksn_bytes iksn) ≡ record { iksn = iksn; counter = 0 }
  pub fits : set.counter < 2 ^ 24
  pub set_is : IsRegisterSet set
  pub are_16 : HaveSixteenBytes set.registers

-- what stands after a version, and before more
abbrev image_with : ℕ → RegisterSet → List ℕ → List ℕ
image_with version set rest = version ∷ (present_bytes set ++ rest)

sixteen : (set : RegisterSet) → IsWritable set → (k : ℕ) → k < length set.registers → length (register_at set.registers k) ≡ 16
sixteen set writable k inside = writable.are_16 k (omega (arith, writable.set_is.are_21))

length-present_bytes : (set : RegisterSet) → IsWritable set → length (present_bytes set) ≡ 349
length-present_bytes set writable =
    let whole = length-append (iksn_bytes set.iksn) (big_bytes 3 set.counter ++ concat set.registers) in
    let registers = length-concat 16 set.registers empty_register (sixteen set writable) in
    omega (arith, whole, registers, writable.ten set.iksn, writable.set_is.are_21)

present_then : (set : RegisterSet) (rest : List ℕ) → present_bytes set ++ rest ≡ iksn_bytes set.iksn ++ (big_bytes 3 set.counter ++ (concat set.registers ++ rest))
present_then set rest = append_assoc (iksn_bytes set.iksn) (big_bytes 3 set.counter ++ concat set.registers) rest

serial_found : (version : ℕ) (set : RegisterSet) (rest : List ℕ) → IsWritable set → serial_in (image_with version set rest) ≡ record { iksn = set.iksn; counter = 0 }
serial_found version set rest writable =
    ap (λ bytes. serial_of_bytes (take 10 bytes)) (present_then set rest)
    ∙ ap serial_of_bytes (take_at (iksn_bytes set.iksn) (big_bytes 3 set.counter ++ (concat set.registers ++ rest)) 10 (writable.ten set.iksn))
    ∙ writable.found set.iksn writable.set_is.iksn_is

after_serial : (version : ℕ) (set : RegisterSet) (rest : List ℕ) → IsWritable set → drop 11 (image_with version set rest) ≡ big_bytes 3 set.counter ++ (concat set.registers ++ rest)
after_serial version set rest writable =
    ap (drop 10) (present_then set rest)
    ∙ drop_at (iksn_bytes set.iksn) (big_bytes 3 set.counter ++ (concat set.registers ++ rest)) 10 (writable.ten set.iksn)

counter_found : (version : ℕ) (set : RegisterSet) (rest : List ℕ) → IsWritable set → counter_in (image_with version set rest) ≡ set.counter
counter_found version set rest writable =
    ap (λ bytes. big_number 3 (take 3 bytes)) (after_serial version set rest writable)
    ∙ big_number-reads_back 3 set.counter [] writable.fits

after_counter : (version : ℕ) (set : RegisterSet) (rest : List ℕ) → IsWritable set → drop 14 (image_with version set rest) ≡ concat set.registers ++ rest
after_counter version set rest writable = sym (drop-drop 3 11 (image_with version set rest)) ∙ ap (drop 3) (after_serial version set rest writable)

registers_found : (version : ℕ) (set : RegisterSet) (rest : List ℕ) → IsWritable set → registers_in (image_with version set rest) ≡ set.registers
unfolding registers_in
registers_found version set rest writable =
    let image = image_with version set rest in
    sym (fill_by_all (λ (place : ℕ). take 16 (drop (14 + 16 * place) image)) set.registers 21 empty_register writable.set_is.are_21 (λ place within.
    let here : place < length set.registers = omega (arith, writable.set_is.are_21) in
    sym (ap (take 16) (sym (drop-drop (16 * place) 14 image) ∙ ap (drop (16 * place)) (after_counter version set rest writable)) ∙ piece_found 16 set.registers rest place empty_register (sixteen set writable) here)))

present_found : (version : ℕ) (set : RegisterSet) (rest : List ℕ) → IsWritable set → IsPresentPart (image_with version set rest)
present_found version set rest writable =
    let image = image_with version set rest in
    let counter : set.counter ≡ counter_in image = sym (counter_found version set rest writable) in
    let registers : set.registers ≡ registers_in image = sym (registers_found version set rest writable) in
    record {
      counter_bits_are_zero = ap (λ (serial : Serial). serial.counter) (serial_found version set rest writable);
      counter_is = subst (λ n. IsUsable n ⊎ (n ≡ spent_counter)) counter writable.set_is.counter_is;
      leaves_empty = subst (λ n. LeavesEmpty n (registers_in image)) counter (subst (LeavesEmpty set.counter) registers writable.set_is.leaves_empty);
    }

set_found : (version : ℕ) (set : RegisterSet) (rest : List ℕ) → IsWritable set → past_in (image_with version set rest) ≡ set.past → set_in (image_with version set rest) ≡ set
set_found version set rest writable past =
    let image = image_with version set rest in
    ap (λ (serial : Serial). record { iksn = serial.iksn; counter = counter_in image; registers = registers_in image; past = past_in image }) (serial_found version set rest writable)
    ∙ ap (λ (counter : ℕ). record { iksn = set.iksn; counter = counter; registers = registers_in image; past = past_in image }) (counter_found version set rest writable)
    ∙ ap (λ (registers : List (List ℕ)). record { iksn = set.iksn; counter = set.counter; registers = registers; past = past_in image }) (registers_found version set rest writable)
    ∙ ap (λ (list : List ℕ). record { iksn = set.iksn; counter = set.counter; registers = set.registers; past = list }) past

-- ---- version 2

has_past : (set : RegisterSet) → IsWritable set → HasPast (image_bytes set) set.past
has_past set writable = record {
  ten = writable.ten;
  found = writable.found;
  iksns = writable.set_is.past_are_iksns;
  bytes = drop_at (present_bytes set) (past_bytes set.past) 349 (length-present_bytes set writable);
}

pub length-image_bytes : (set : RegisterSet) → IsWritable set → length (image_bytes set) ≡ 431
length-image_bytes set writable =
    omega (arith, length-append (present_bytes set) (past_bytes set.past), length-present_bytes set writable, length-past_bytes set.past writable.ten writable.set_is.past_are_at_most_8)

pub set_in-image_bytes : (set : RegisterSet) → IsWritable set → set_in (image_bytes set) ≡ set
set_in-image_bytes set writable = set_found 2 set (past_bytes set.past) writable (past_found (image_bytes set) set.past (has_past set writable))

parts_of_version_2 : (set : RegisterSet) → IsWritable set → HasPartsOfVersion2 (image_bytes set)
parts_of_version_2 set writable =
    let iksn : set.iksn ≡ (serial_in (image_bytes set)).iksn = sym (ap (λ (serial : Serial). serial.iksn) (serial_found 2 set (past_bytes set.past) writable)) in
    record {
      is_431_bytes = length-image_bytes set writable;
      is_version_2 = refl;
      present_is = present_found 2 set (past_bytes set.past) writable;
      past_is = IsPastPart-written (image_bytes set) set.past (has_past set writable) writable.set_is.past_are_at_most_8 writable.set_is.past_are_different (subst (λ (n : ℕ). ¬ Contains set.past n) iksn writable.set_is.iksn_is_not_past);
    }

-- ---- version 1

with_nothing : (set : RegisterSet) → image_with 1 set [] ≡ image_bytes_of_version_1 set
with_nothing set = ap (λ bytes. 1 ∷ bytes) (append-nil (present_bytes set))

pub length-image_bytes_of_version_1 : (set : RegisterSet) → IsWritable set → length (image_bytes_of_version_1 set) ≡ 350
length-image_bytes_of_version_1 set writable = omega (arith, length-present_bytes set writable)

pub set_in-image_bytes_of_version_1 : (set : RegisterSet) → IsWritable set → set.past ≡ [] → set_in (image_bytes_of_version_1 set) ≡ set
set_in-image_bytes_of_version_1 set writable none =
    ap set_in (sym (with_nothing set)) ∙ set_found 1 set [] writable (sym none)

parts_of_version_1 : (set : RegisterSet) → IsWritable set → HasPartsOfVersion1 (image_bytes_of_version_1 set)
parts_of_version_1 set writable =
    record {
      is_350_bytes = length-image_bytes_of_version_1 set writable;
      is_version_1 = refl;
      present_is = subst IsPresentPart (with_nothing set) (present_found 1 set [] writable);
    }

-- ---- images

-- what is written for what a terminal keeps
abbrev pub AreWritable : Type 0
AreWritable = (set : RegisterSet) → IsRegisterSet set → HaveSixteenBytes set.registers → IsWritable set

pub writable : ((iksn : ℕ) → length (iksn_bytes iksn) ≡ 10) → ((iksn : ℕ) → IsIksn iksn → serial_of_bytes (iksn_bytes iksn) ≡ record { iksn = iksn; counter = 0 }) → BitLaws → AreWritable
writable ten found laws set set_is are_16 = record {
  ten = ten;
  found = found;
  fits = omega (arith, (counter_bounds laws set.counter set_is.counter_is).1);
  set_is = set_is;
  are_16 = are_16;
}

-- an image has the parts of one
pub parts_of_image : (image : List ℕ) → AreWritable → IsImage image → HasImageParts image
parts_of_image image are_writable is_image = elim is_image [
  | inl one ↦ inl (subst HasPartsOfVersion1 (sym one.bytes_are) (parts_of_version_1 one.set (are_writable one.set one.set_is one.are_16)))
  | inr two ↦ inr (subst HasPartsOfVersion2 (sym two.bytes_are) (parts_of_version_2 two.set (are_writable two.set two.set_is two.are_16)))
]

-- the image of a set is one
pub IsImage-image_bytes : (set : RegisterSet) → IsRegisterSet set → HaveSixteenBytes set.registers → IsImage (image_bytes set)
IsImage-image_bytes set set_is are_16 = inr (record { set = set; set_is = set_is; are_16 = are_16; bytes_are = refl })

-- so is that of version 1, which is the image of the set without past numbers
pub IsImage-image_bytes_of_version_1 : (set : RegisterSet) → IsRegisterSet set → HaveSixteenBytes set.registers → IsImage (image_bytes_of_version_1 set)
IsImage-image_bytes_of_version_1 set set_is are_16 = inl (record {
  set = record { iksn = set.iksn; counter = set.counter; registers = set.registers; past = [] };
  set_is = record {
    iksn_is = set_is.iksn_is;
    counter_is = set_is.counter_is;
    are_21 = set_is.are_21;
    leaves_empty = set_is.leaves_empty;
    past_are_iksns = λ k d within. absurd (omega arith);
    past_are_at_most_8 = omega arith;
    past_are_different = λ i j d below within. absurd (omega arith);
    iksn_is_not_past = λ found. absurd (omega (arith, found.1));
  };
  are_16 = are_16;
  none_past = refl;
  bytes_are = refl;
})

-- the registers that are read have sixteen bytes each
pub sixteen_read : (image : List ℕ) → 350 ≤ length image → HaveSixteenBytes (registers_in image)
unfolding registers_in
sixteen_read image long place within =
    ap length (get_or-map-range_with_len (λ (place : ℕ). take 16 (drop (14 + 16 * place) image)) 0 21 place place empty_register within (omega arith))
    ∙ part_length image (14 + 16 * place) 16 (omega arith)
