-- Keys of either length: this project's own.
use Rattle.std.specs.Prelude.{ℕ, List, length, ◌==◌, if◌then◌else◌}
use Rattle.duk_tdes.specs.declared.key.KeyBytes.{KeyBytes}
use Rattle.duk_tdes.specs.declared.key.KeyBytes.TheVariants.{Double, Triple}

-- the bytes of a key of either length
abbrev pub bytes_of : KeyBytes → List ℕ
bytes_of (Double key) = key
bytes_of (Triple key) = key

-- a key of these bytes, by their number
abbrev pub key_from : List ℕ → KeyBytes
key_from bytes = if length bytes == 16 then Double bytes else Triple bytes
