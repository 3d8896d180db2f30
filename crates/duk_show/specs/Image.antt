-- What `show` prints of a terminal's image (this project's own, over its format).
use Rattle.std.specs.Prelude.{◌≡◌, ◌⊎◌, ◌-◌, ◌==◌, if◌then◌else◌, ⊤, ℕ, zero, suc, Bool, List, [], ◌∷◌, ◌++◌, codes, decimal, drop, flat_map, length, nat_eq, slice_index, take}
use Rattle.std.specs.Cmp.Lexicographic.{pointwise}
use Rattle.hex.specs.Hex.{encode_upper}
use Rattle.duk_block.specs.Hexadecimal.{IsHexadecimal}
use Rattle.duk_commands.specs.Lines.{named_line, text_line}
use Rattle.duk_io.specs.FirstFault.{IsFirst}
use Rattle.duk_regs.specs.Image.{IsImage, counter_in, serial_in, set_in}
use Rattle.duk_regs.specs.Registers.{RegisterSet, empty_register, register_at}
use Rattle.duk_tree.specs.Next.{spent_counter}
use Rattle.duk_tree.specs.Path.{IsUsable}
use Rattle.duk_tree.specs.Serial.{iksn_bytes, serial_bytes}
use Rattle.duk_show.specs.Hexadecimal.{IsNoDigitAt}
use Rattle.duk_show.specs.ImageFault.{image_place, image_size}
use Rattle.duk_show.specs.declared.fault.ShowFault.{ShowFault}
use Rattle.duk_show.specs.declared.fault.ShowFault.TheVariants.{ImageRefused, OutOfMemory}
use Rattle.duk_show.specs.declared.image_fault.ImageFault.{ImageFault}
use Rattle.duk_show.specs.declared.image_fault.ImageFault.TheVariants as fault

-- the line of the number that the terminal uses next, or `spent`
abbrev pub next_line : RegisterSet → List ℕ
next_line set =
    if set.counter == spent_counter then text_line (codes "next") (codes "spent")
    else named_line (codes "next")
    (serial_bytes (record { iksn = set.iksn; counter = set.counter }))

-- what is shown of a register: whether it is empty, 16 zero bytes, or filled; or its key
abbrev pub register_words : Bool → List ℕ → List ℕ
register_words show register =
    if pointwise nat_eq register empty_register then codes "empty"
    else (if show then encode_upper register else codes "filled")

-- the line of a register: its bit place of the counter, its number in ANSI X9.24-1:2009 annex A,
-- that of place p being 21 - p, and what is shown of it
abbrev pub register_line : Bool → ℕ → List ℕ → List ℕ
register_line show place register =
    text_line (codes "register")
    (decimal place ++ codes " " ++ decimal (21 - place) ++ codes " "
    ++ register_words show register)

-- the lines of the registers below a place
abbrev pub register_lines : Bool → List (List ℕ) → ℕ → List ℕ
register_lines show registers zero = []
register_lines show registers (suc place) =
    register_lines show registers place ++ register_line show place (register_at registers place)

-- the line of an initial key serial number that the terminal had before
abbrev pub past_line : ℕ → List ℕ
past_line iksn = named_line (codes "past") (iksn_bytes iksn)

-- the lines of an image of this version with these registers
abbrev pub image_lines : Bool → ℕ → RegisterSet → List ℕ
image_lines show version set =
    text_line (codes "version") (decimal version)
    ++ named_line (codes "iksn") (iksn_bytes set.iksn)
    ++ next_line set
    ++ register_lines show set.registers 21
    ++ flat_map past_line set.past

-- a text is an image in hexadecimal, and these are its lines, with the registers' keys where they
-- are to be shown
pub record IsImageText (image : List ℕ) (show : Bool) (text : List ℕ) : Type 0 where
  pub bytes : List ℕ
  pub read : IsHexadecimal image bytes
  pub is_image : IsImage bytes
  pub text_is : text ≡ image_lines show (slice_index bytes 0) (set_in bytes)

-- the bytes as an image of version 1, without the numbers that were past
abbrev pub as_version_1 : List ℕ → List ℕ
as_version_1 bytes = 1 ∷ take 349 (drop 1 bytes)

-- what bytes must meet, or else are refused with this fault: the registers are right where the
-- bytes are an image but for the past numbers, and these where they are one
abbrev pub MeetsImage : List ℕ → ImageFault → Type 0
MeetsImage bytes fault.Hex = ⊤
MeetsImage bytes fault.Version = (slice_index bytes 0 ≡ 1) ⊎ (slice_index bytes 0 ≡ 2)
MeetsImage bytes fault.Length = length bytes ≡ image_size bytes
MeetsImage bytes fault.Iksn = (serial_in bytes).counter ≡ 0
MeetsImage bytes fault.Counter =
    IsUsable (counter_in bytes) ⊎ (counter_in bytes ≡ spent_counter)
MeetsImage bytes fault.Registers = IsImage (as_version_1 bytes)
MeetsImage bytes fault.Past = IsImage bytes

-- the order of the fields
abbrev pub image_rank : ImageFault → ℕ
image_rank fault.Hex = 0
image_rank fault.Version = 1
image_rank fault.Length = 2
image_rank fault.Iksn = 3
image_rank fault.Counter = 4
image_rank fault.Registers = 5
image_rank fault.Past = 6

-- the first wrong field of bytes that are no image
abbrev pub IsImageFault : List ℕ → ImageFault → Type 0
IsImageFault bytes =
    IsFirst image_rank (MeetsImage bytes) (λ why. ¬ MeetsImage bytes why)

-- the bytes that a text writes have this wrong field, which begins at this place
pub record IsImageWrongAt (image : List ℕ) (place : ℕ) (why : ImageFault) : Type 0 where
  pub bytes : List ℕ
  pub read : IsHexadecimal image bytes
  pub wrong : IsImageFault bytes why
  pub place_is : place ≡ image_place bytes why

-- where the reading of a text as an image stops, and why
abbrev pub StopsImage : List ℕ → ℕ → ImageFault → Type 0
StopsImage image place fault.Hex =
    IsNoDigitAt image place × ((bytes : List ℕ) → ¬ IsHexadecimal image bytes)
StopsImage image place why = IsImageWrongAt image place why

-- why a text is not shown as an image; memory for its bytes may be refused
abbrev pub IsImageRefused : List ℕ → ShowFault → Type 0
IsImageRefused image (ImageRefused place why) =
    StopsImage image place why
    × ((bytes : List ℕ) → IsHexadecimal image bytes → ¬ IsImage bytes)
IsImageRefused image OutOfMemory = ⊤
IsImageRefused image why = ⊥
