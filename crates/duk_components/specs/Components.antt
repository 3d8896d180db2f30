-- The components of a host's local master key, as lines, and what they make (this project's own, over
-- the check values of ANSI X9.24-1:2017 annex A).
use Rattle.std.specs.Prelude.{◌≡◌, ◌+◌, ◌-◌, ◌<◌, ◌≤◌, ℕ, false, true, List, [], ◌∷◌, ◌++◌, Option, Some, None, codes, drop, length, map, take, if◌then◌else◌}
use Rattle.std.specs.Str.{bytes_eq}
use Rattle.hex.specs.Hex.{encode_upper}
use Rattle.duk_commands.specs.CheckValues.{HaveOneLength, combined}
use Rattle.duk_commands.specs.Lines.{named_line}
use Rattle.duk_commands.specs.WeakKeys.{is_weak_key}
use Rattle.duk_components.specs.Fault.{numbered}
use Rattle.duk_components.specs.declared.fault.ComponentFault.{ComponentFault}
use Rattle.duk_components.specs.declared.fault.ComponentFault.TheVariants.{Component, Number, Weak}
use Rattle.duk_mac.specs.CheckValue.{check_value_of}
use Rattle.duk_tdes.specs.Key.{IsKey}
use Rattle.duk_tdes.specs.KeyBytes.{bytes_of}
use Rattle.duk_tdes.specs.KeyText.{tdes_key_of_text}
use Rattle.duk_tdes.specs.declared.key.KeyBytes.{KeyBytes}

-- what stands behind the digits of a component: a space, and its check value in six digits
abbrev pub behind_digits : KeyBytes → List ℕ
behind_digits key = codes " " ++ encode_upper (check_value_of (bytes_of key))

-- a key, where a text is what stands behind its digits
abbrev pub with_value : List ℕ → Option KeyBytes → Option KeyBytes
with_value text None = None
with_value text (Some key) = if bytes_eq text (behind_digits key) then Some key else None

-- the component that a line writes: 32 or 48 hexadecimal digits, a space, and its check value
abbrev pub component_of : List ℕ → Option KeyBytes
component_of line = with_value (drop (length line - 7) line)
    (tdes_key_of_text (take (length line - 7) line))

-- each line writes the component in its place
abbrev pub Write : List (List ℕ) → List KeyBytes → Type 0
Write lines keys = map component_of lines ≡ map Some keys

-- the same, and they have one length
pub record AreComponents (lines : List (List ℕ)) (keys : List KeyBytes) : Type 0 where
  pub written : Write lines keys
  pub one_length : HaveOneLength keys

-- a component's check value, with its place
abbrev pub component_line : ℕ → KeyBytes → List ℕ
component_line place key = named_line (numbered place) (check_value_of (bytes_of key))

-- those of components from a place on
abbrev pub component_lines : ℕ → List KeyBytes → List ℕ
component_lines place [] = []
component_lines place (key ∷ keys) = component_line place key ++ component_lines (place + 1) keys

-- there are two to nine lines
pub record AreEnough (lines : List (List ℕ)) : Type 0 where
  pub enough : 2 ≤ length lines
  pub few : length lines ≤ 9

-- the lines are two to nine, and write components, whose exclusive or is no weak key
pub record AreOfLmk (lines : List (List ℕ)) (keys : List KeyBytes) : Type 0 where
  pub enough : AreEnough lines
  pub components : AreComponents lines keys
  pub strong : is_weak_key (combined keys) ≡ false

-- the check values of components, and of the key that they make
abbrev pub lmk_text : List KeyBytes → List ℕ
lmk_text keys = component_lines 1 keys
    ++ named_line (codes "lmk") (check_value_of (combined keys))

-- the lines write components of a local master key, and the text is the check values of each and of
-- that key
pub record IsLmkText (lines : List (List ℕ)) (text : List ℕ) : Type 0 where
  pub keys : List KeyBytes
  pub are : AreOfLmk lines keys
  pub text_is : text ≡ lmk_text keys

-- the lines before this place write components of one length, and with that there they do not
pub record IsFirstRefused (lines : List (List ℕ)) (place : ℕ) : Type 0 where
  pub inside : place < length lines
  pub keys : List KeyBytes
  pub before : AreComponents (take place lines) keys
  pub refused : (all : List KeyBytes) → ¬ AreComponents (take (place + 1) lines) all

-- the lines are two to nine, and write components of a weak key
pub record IsLmkWeak (lines : List (List ℕ)) : Type 0 where
  pub enough : AreEnough lines
  pub keys : List KeyBytes
  pub components : AreComponents lines keys
  pub weak : is_weak_key (combined keys) ≡ true

-- why there are no check values; places are told from 1
abbrev pub IsLmkRefused : List (List ℕ) → ComponentFault → Type 0
IsLmkRefused lines Number = ¬ AreEnough lines
IsLmkRefused lines (Component told) =
    AreEnough lines × ((place : ℕ) × (told ≡ place + 1) × IsFirstRefused lines place)
IsLmkRefused lines Weak = IsLmkWeak lines
IsLmkRefused lines _ = ⊥

-- a component of so many bytes
abbrev pub IsOfSize : ℕ → KeyBytes → Type 0
IsOfSize size key = IsKey size (bytes_of key)
