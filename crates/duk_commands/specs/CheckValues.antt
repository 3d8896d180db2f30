-- What `kcv` makes of its arguments (this project's own, over the check values of
-- ANSI X9.24-1:2017 annex A).
use Rattle.std.specs.Prelude.{◌≡◌, ◌≢◌, ◌<◌, ℕ, Bool, true, false, List, [], ◌∷◌, ◌++◌, codes, length, map, fold, flat_map, All, Option, Some, None}
use Rattle.duk_commands.specs.Answer.{Command, command_of}
use Rattle.duk_commands.specs.Lines.{named_line}
use Rattle.duk_commands.specs.WeakKeys.{weak_line}
use Rattle.duk_commands.specs.declared.fault.Fault.{Fault}
use Rattle.duk_commands.specs.declared.fault.Fault.TheVariants.{KeyRefused}
use Rattle.duk_mac.specs.CheckValue.{check_value_of, cmac_check_value_of}
use Rattle.duk_tdes.specs.Key.{xor_bytes}
use Rattle.duk_tdes.specs.KeyBytes.{bytes_of}
use Rattle.duk_tdes.specs.KeyText.{tdes_key_of_text}
use Rattle.duk_tdes.specs.declared.key.KeyBytes.{KeyBytes}

-- each text writes the key in its place
abbrev pub Write : List (List ℕ) → List KeyBytes → Type 0
Write texts keys = map tdes_key_of_text texts ≡ map Some keys

-- the two check values of a key, and why it is weak, where it is
abbrev pub key_values : List ℕ → List ℕ
key_values key = named_line (codes "kcv") (check_value_of key)
    ++ named_line (codes "cmac") (cmac_check_value_of key) ++ weak_line key

-- the two check values of a component
abbrev pub component_values : List ℕ → List ℕ
component_values key = named_line (codes "component-kcv") (check_value_of key)
    ++ named_line (codes "component-cmac") (cmac_check_value_of key)

-- the lines of some keys, one key after the other
abbrev pub lines_of : (List ℕ → List ℕ) → List KeyBytes → List ℕ
lines_of line_of keys = flat_map (λ key. line_of (bytes_of key)) keys

-- components of one key have one length
abbrev pub HaveOneLength : List KeyBytes → Type 0
HaveOneLength keys =
    (size : ℕ) × All (λ key. length (bytes_of key) ≡ size) keys

-- the key of its components: their exclusive or
abbrev pub combined : List KeyBytes → List ℕ
combined [] = []
combined (first ∷ rest) = fold (λ key component. xor_bytes key (bytes_of component)) (bytes_of first) rest

-- the sum of components of one length, where there is a component
abbrev pub IsSumOf : List KeyBytes → Option KeyBytes → Type 0
IsSumOf keys None = keys ≡ []
IsSumOf keys (Some sum) = (0 < length keys) × (bytes_of sum ≡ combined keys)
    × All (λ key. length (bytes_of key) ≡ length (bytes_of sum)) keys

-- a component has another length than the sum
abbrev pub IsOfOtherLength : Option KeyBytes → KeyBytes → Type 0
IsOfOtherLength None component = ⊥
IsOfOtherLength (Some sum) component = length (bytes_of sum) ≢ length (bytes_of component)

-- the line of the combined key, where it is to be shown
abbrev pub shown_line : Bool → List ℕ → List ℕ
shown_line false key = []
shown_line true key = named_line (codes "key") key

-- the lines of components, and of the key that they make
abbrev pub component_lines : Bool → List KeyBytes → List ℕ
component_lines show keys = lines_of component_values keys ++ shown_line show (combined keys)
    ++ key_values (combined keys)

-- the texts write keys, and this is the text of their lines
pub record IsKeysText (texts : List (List ℕ)) (text : List ℕ) : Type 0 where
  pub keys : List KeyBytes
  pub read : Write texts keys
  pub text_is : text ≡ lines_of key_values keys

-- the texts write components of one key, and this is the text of their lines
pub record IsComponentsText (texts : List (List ℕ)) (show : Bool) (text : List ℕ) : Type 0 where
  pub keys : List KeyBytes
  pub read : Write texts keys
  pub one_length : HaveOneLength keys
  pub text_is : text ≡ component_lines show keys

-- the text that the arguments ask for
abbrev pub IsValuesText : List (List ℕ) → Bool → Bool → List ℕ → Type 0
IsValuesText texts false show text = IsKeysText texts text
IsValuesText texts true show text = IsComponentsText texts show text

-- the texts write keys, which have one length where they are components
abbrev pub AreAccepted : List (List ℕ) → Bool → Type 0
AreAccepted texts false = (keys : List KeyBytes) × Write texts keys
AreAccepted texts true = (keys : List KeyBytes) × Write texts keys × HaveOneLength keys

-- the one fault of the arguments
abbrev pub IsValuesRefused : List (List ℕ) → Bool → Fault → Type 0
IsValuesRefused texts components KeyRefused = ¬ AreAccepted texts components
IsValuesRefused texts components fault = ⊥

-- the command `kcv`
abbrev pub values_of : List (List ℕ) → Bool → Bool → Command
values_of texts components show =
    command_of (IsValuesText texts components show) (IsValuesRefused texts components)
