-- Which bytes a private function reads as an image, part by part (this project's own): those that
-- are the image of a terminal, and no others.
use Rattle.std.specs.Prelude.{◌≡◌, ◌≢◌, ◌⊎◌, ◌<◌, ◌≤◌, ◌+◌, ◌-◌, ◌*◌, ℕ, List, AllPairs, Contains, length, drop, replicate, slice_index}
use Rattle.duk_tree.specs.Path.{IsUsable}
use Rattle.duk_tree.specs.Next.{spent_counter}
use Rattle.duk_regs.specs.Image.{counted_past_in, counter_in, past_count_in, past_serial_in, registers_in, serial_in}
use Rattle.duk_regs.specs.Registers.{LeavesEmpty}

-- what both versions ask of the initial key serial number, the next counter and the registers
pub record IsPresentPart (image : List ℕ) : Type 0 where
  pub counter_bits_are_zero : (serial_in image).counter ≡ 0
  pub counter_is : IsUsable (counter_in image) ⊎ (counter_in image ≡ spent_counter)
  pub leaves_empty : LeavesEmpty (counter_in image) (registers_in image)

-- what version 2 asks of the past initial key serial numbers; that of ten zero bytes is lawful
pub record IsPastPart (image : List ℕ) : Type 0 where
  pub are_at_most_8 : past_count_in image ≤ 8
  pub counter_bits_are_zero : (place : ℕ) → place < past_count_in image
      → (past_serial_in image place).counter ≡ 0
  pub are_different : AllPairs (λ one other. one ≢ other) (counted_past_in image)
  pub iksn_is_not_past : ¬ Contains (counted_past_in image) (serial_in image).iksn
  pub unused_are_zero : drop (351 + 10 * past_count_in image) image
      ≡ replicate (10 * (8 - past_count_in image)) 0

-- the parts of an image of version 1
pub record HasPartsOfVersion1 (image : List ℕ) : Type 0 where
  pub is_350_bytes : length image ≡ 350
  pub is_version_1 : slice_index image 0 ≡ 1
  pub present_is : IsPresentPart image

-- the parts of an image of version 2
pub record HasPartsOfVersion2 (image : List ℕ) : Type 0 where
  pub is_431_bytes : length image ≡ 431
  pub is_version_2 : slice_index image 0 ≡ 2
  pub present_is : IsPresentPart image
  pub past_is : IsPastPart image

-- the parts of an image
abbrev pub HasImageParts : List ℕ → Type 0
HasImageParts image = HasPartsOfVersion1 image ⊎ HasPartsOfVersion2 image
