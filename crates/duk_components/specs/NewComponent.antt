-- A new component of a local master key (this project's own, over the parity of FIPS 46-3 and the
-- check values of ANSI X9.24-1:2017 annex A).
use Rattle.std.specs.Prelude.{◌≡◌, ◌+◌, ◌-◌, ◌*◌, ◌/◌, ◌%◌, ℕ, List, [], ◌∷◌, ◌++◌, count_ones, false, map}
use Rattle.hex.specs.Hex.{encode_upper}
use Rattle.duk_commands.specs.CheckValues.{Write}
use Rattle.duk_commands.specs.Fault.{line_end}
use Rattle.duk_commands.specs.WeakKeys.{is_weak_key}
use Rattle.duk_components.specs.Components.{behind_digits}
use Rattle.duk_components.specs.declared.fault.ComponentFault.{ComponentFault}
use Rattle.duk_components.specs.declared.fault.ComponentFault.TheVariants.{Random}
use Rattle.duk_tdes.specs.Key.{IsKey}
use Rattle.duk_tdes.specs.KeyBytes.{bytes_of}
use Rattle.duk_tdes.specs.declared.key.KeyBytes.{KeyBytes}
use Rattle.duk_tdes.specs.declared.key.KeyBytes.TheVariants.{Double, Triple}

-- the first seven bits of a byte, and behind them the bit that makes the number of its one bits odd
abbrev pub with_odd_parity : ℕ → ℕ
with_odd_parity byte = byte / 2 * 2 + (1 - count_ones (byte / 2) % 2)

-- a key of odd parity: each of its bytes has it
abbrev pub key_with_odd_parity : List ℕ → List ℕ
key_with_odd_parity key = map with_odd_parity key

-- there is one text, and it writes this key, which is not weak
pub record IsRandom (texts : List (List ℕ)) (key : KeyBytes) : Type 0 where
  pub written : Write texts (key ∷ [])
  pub strong : is_weak_key (bytes_of key) ≡ false

-- what stands on the line of a component
abbrev pub written_component : KeyBytes → List ℕ
written_component key = encode_upper (bytes_of key) ++ behind_digits key

-- the line of a component
abbrev pub component_text : KeyBytes → List ℕ
component_text key = written_component key ++ line_end

-- a key of as many bytes as its variant says
abbrev pub IsWholeKey : KeyBytes → Type 0
IsWholeKey (Double key) = IsKey 16 key
IsWholeKey (Triple key) = IsKey 24 key

-- one text writes a key that is not weak, and this is the line of the same key with odd parity
pub record IsNewText (texts : List (List ℕ)) (text : List ℕ) : Type 0 where
  pub random : KeyBytes
  pub is_random : IsRandom texts random
  pub component : KeyBytes
  pub component_is : bytes_of component ≡ key_with_odd_parity (bytes_of random)
  pub text_is : text ≡ component_text component

-- the one fault
abbrev pub IsNewRefused : List (List ℕ) → ComponentFault → Type 0
IsNewRefused texts Random = (key : KeyBytes) → ¬ IsRandom texts key
IsNewRefused texts _ = ⊥
