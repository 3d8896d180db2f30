-- What a terminal keeps in its cell: a format of this project's own.
use Rattle.std.specs.Prelude.{◌≡◌, ◌⊎◌, ◌-◌, ◌==◌, if◌then◌else◌, ℕ, List, [], ◌++◌, take, drop, replicate, slice_index_or}
use Rattle.duk_regs.specs.Image.{IsImage, image_bytes, image_bytes_of_version_1, set_in}
use Rattle.duk_regs.specs.Registers.{RegisterSet}

-- a body: the image of the registers in 431 bytes, and 72 zero bytes after it
abbrev pub body_bytes : RegisterSet → List ℕ
body_bytes set = image_bytes set ++ replicate 72 0

-- the body of version 1: the image in 350 bytes, and 153 zero bytes after it
abbrev pub body_bytes_of_version_1 : RegisterSet → List ℕ
body_bytes_of_version_1 set = image_bytes_of_version_1 set ++ replicate 153 0

-- a body keeps these registers: it is their body or, where no initial key serial number is past, that
-- of version 1
abbrev pub KeepsRegisters : List ℕ → RegisterSet → Type 0
KeepsRegisters body set =
    (body ≡ body_bytes set) ⊎ ((set.past ≡ []) × (body ≡ body_bytes_of_version_1 set))

-- the bytes of the image in a body, by its version
abbrev pub image_length : List ℕ → ℕ
image_length body = if slice_index_or body 0 0 == 1 then 350 else 431

-- the image in a body
abbrev pub image_in : List ℕ → List ℕ
image_in body = take (image_length body) body

-- bytes that are a body: an image of either version, and zeros after it
pub record IsTerminalBody (body : List ℕ) : Type 0 where
  pub image : IsImage (image_in body)
  pub zeros : drop (image_length body) body ≡ replicate (503 - image_length body) 0

-- the registers whose image stands in a body
abbrev pub set_of_body : List ℕ → RegisterSet
set_of_body body = set_in (image_in body)

-- what is kept is found again: a body that keeps these registers is one, and has these registers
pub record IsFoundAgain (set : RegisterSet) : Type 0 where
  pub is_body : (body : List ℕ) → KeepsRegisters body set → IsTerminalBody body
  pub same : (body : List ℕ) → KeepsRegisters body set → set_of_body body ≡ set
