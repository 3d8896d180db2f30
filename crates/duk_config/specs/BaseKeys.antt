-- The base derivation keys of a configuration: this project's own.
use Rattle.std.specs.Prelude.{ℕ, List}

-- a base derivation key, after the first five bytes of the key serial numbers that it is for
abbrev pub BaseKey : Type 0
BaseKey = List ℕ × List ℕ

abbrev pub bdk_prefix_of : BaseKey → List ℕ
bdk_prefix_of bdk = bdk.0

abbrev pub bdk_key_of : BaseKey → List ℕ
bdk_key_of bdk = bdk.1
