-- The fields of a terminal's image that may be wrong: this project's own.
use Rattle.std.specs.Prelude.{◌==◌, if◌then◌else◌, min, ℕ, List, codes, length, slice_index}
use Rattle.duk_show.specs.declared.image_fault.ImageFault.{ImageFault}
use Rattle.duk_show.specs.declared.image_fault.ImageFault.TheVariants as fault

-- a fault's name, as its line has it
abbrev pub image_fault_name : ImageFault → List ℕ
image_fault_name fault.Hex = codes "Hex"
image_fault_name fault.Version = codes "Version"
image_fault_name fault.Length = codes "Length"
image_fault_name fault.Iksn = codes "Iksn"
image_fault_name fault.Counter = codes "Counter"
image_fault_name fault.Registers = codes "Registers"
image_fault_name fault.Past = codes "Past"

-- the bytes of an image, by the version in its first byte
abbrev pub image_size : List ℕ → ℕ
image_size image = if slice_index image 0 == 1 then 350 else 431

-- the byte at which the field of a fault begins; of a wrong length, that at which the image ends,
-- or its version's does
abbrev pub image_place : List ℕ → ImageFault → ℕ
image_place image fault.Hex = 0
image_place image fault.Version = 0
image_place image fault.Length = min (length image) (image_size image)
image_place image fault.Iksn = 1
image_place image fault.Counter = 11
image_place image fault.Registers = 14
image_place image fault.Past = 350
