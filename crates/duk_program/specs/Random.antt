-- What is drawn of the system's random device (this project's own).
use Rattle.std.specs.Prelude.{⊤, ◌≡◌, ℕ, List, codes}
use Rattle.byteorder.specs.Endian.{big_number}
use Rattle.duk_program.specs.declared.random.IdentityFault.{IdentityFault}
use Rattle.duk_program.specs.declared.random.IdentityFault.TheVariants as fault
use Rattle.duk_service.specs.Files.{FileKnown, IsFrontRead, IsShorterThan}

-- the path of that device
abbrev pub random_device : List ℕ
random_device = codes "/dev/urandom"

-- an identity is drawn: the first eight bytes that the device gives
pub record IsIdentityDrawn (random : FileKnown) (identity : ℕ) : Type 0 where
  pub bytes : List ℕ
  pub read : IsFrontRead random 8 bytes
  pub is : identity ≡ big_number 8 bytes

-- why none is; memory may be refused at any time
abbrev pub IsIdentityUndrawn : FileKnown → IdentityFault → Type 0
IsIdentityUndrawn random fault.Unread = IsShorterThan 8 random
IsIdentityUndrawn random fault.OutOfMemory = ⊤

-- the line of a fault, LF at its end
abbrev pub identity_line : IdentityFault → List ℕ
identity_line fault.Unread = codes "identity: cannot read\n"
identity_line fault.OutOfMemory = codes "out of memory\n"
