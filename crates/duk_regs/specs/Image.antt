-- The image of a terminal: version 2, of 431 bytes, and version 1, of 350, which is read but not
-- written any more. Formats of this project's own.
use Rattle.std.specs.Prelude.{◌≡◌, ◌⊎◌, ◌+◌, ◌-◌, ◌*◌, ◌==◌, if◌then◌else◌, ℕ, List, [], ◌∷◌, ◌++◌, length, take, drop, map, replicate, slice_index}
use Rattle.std.specs.List.{concat, range_with_len}
use Rattle.byteorder.specs.Endian.{big_bytes, big_number}
use Rattle.duk_tree.specs.Serial.{Serial, serial_of_bytes, iksn_bytes}
use Rattle.duk_regs.specs.Registers.{HaveSixteenBytes, IsRegisterSet, RegisterSet}

-- the initial key serial number in 10 bytes, the next counter in 3, and the 21 registers of 16
-- bytes, register 0 first
abbrev pub present_bytes : RegisterSet → List ℕ
present_bytes set = iksn_bytes set.iksn ++ (big_bytes 3 set.counter ++ concat set.registers)

-- the number of past initial key serial numbers, and eight places of 10 bytes: these numbers in
-- order of their loading, then zeros
abbrev pub past_bytes : List ℕ → List ℕ
past_bytes past =
    length past ∷ (concat (map iksn_bytes past) ++ replicate (10 * (8 - length past)) 0)

-- the image, of version 2
abbrev pub image_bytes : RegisterSet → List ℕ
image_bytes set = 2 ∷ (present_bytes set ++ past_bytes set.past)

-- the image of version 1, which has no past initial key serial numbers
abbrev pub image_bytes_of_version_1 : RegisterSet → List ℕ
image_bytes_of_version_1 set = 1 ∷ present_bytes set

-- bytes that are the image of a terminal, of version 2
pub record IsImageOfVersion2 (image : List ℕ) : Type 0 where
  pub set : RegisterSet
  pub set_is : IsRegisterSet set
  pub are_16 : HaveSixteenBytes set.registers
  pub bytes_are : image ≡ image_bytes set

-- bytes that are the image of a terminal, of version 1
pub record IsImageOfVersion1 (image : List ℕ) : Type 0 where
  pub set : RegisterSet
  pub set_is : IsRegisterSet set
  pub are_16 : HaveSixteenBytes set.registers
  pub none_past : set.past ≡ []
  pub bytes_are : image ≡ image_bytes_of_version_1 set

-- bytes that are the image of a terminal
abbrev pub IsImage : List ℕ → Type 0
IsImage image = IsImageOfVersion1 image ⊎ IsImageOfVersion2 image

-- the key serial number in the bytes of an image
abbrev pub serial_in : List ℕ → Serial
serial_in image = serial_of_bytes (take 10 (drop 1 image))

-- the next counter in them
abbrev pub counter_in : List ℕ → ℕ
counter_in image = big_number 3 (take 3 (drop 11 image))

-- the registers in them
unfoldable pub registers_in : List ℕ → List (List ℕ)
registers_in image = map (λ place. take 16 (drop (14 + 16 * place) image)) (range_with_len 0 21)

-- how many past initial key serial numbers an image of version 2 counts
abbrev pub past_count_in : List ℕ → ℕ
past_count_in image = slice_index image 350

-- the key serial number in a past one's place
abbrev pub past_serial_in : List ℕ → ℕ → Serial
past_serial_in image place = serial_of_bytes (take 10 (drop (351 + 10 * place) image))

-- the initial key serial numbers in the first places of past ones
unfoldable pub past_of : List ℕ → ℕ → List ℕ
past_of image count = map (λ place. (past_serial_in image place).iksn) (range_with_len 0 count)

-- those that an image of version 2 counts
abbrev pub counted_past_in : List ℕ → List ℕ
counted_past_in image = past_of image (past_count_in image)

-- the past initial key serial numbers in an image, by its version: in version 1 none is past
abbrev pub past_in : List ℕ → List ℕ
past_in image = if slice_index image 0 == 1 then [] else counted_past_in image

-- what a terminal with this image keeps, read out of it
abbrev pub set_in : List ℕ → RegisterSet
set_in image =
    record {
      iksn = (serial_in image).iksn;
      counter = counter_in image;
      registers = registers_in image;
      past = past_in image;
    }
