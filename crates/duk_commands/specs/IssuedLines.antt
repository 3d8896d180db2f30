-- The lines that `issue` writes (this project's own, over key blocks of ANSI X9.143 and check
-- values of ANSI X9.24-1:2017 annex A).
use Rattle.std.specs.Prelude.{◌≡◌, ◌*◌, ◌++◌, ℕ, List, [], ◌∷◌, codes, decimal, take, drop}
use Rattle.hex.specs.Hex.{encode_upper}
use Rattle.duk_block.specs.KeyBlock.{IsWrittenKeyBlock}
use Rattle.duk_block.specs.KeyUse.{header_for}
use Rattle.duk_block.specs.declared.key_use.KeyUse.TheVariants.{InitialKey}
use Rattle.duk_commands.specs.Fault.{line_end}
use Rattle.duk_mac.specs.CheckValue.{check_value_of}
use Rattle.duk_tdes.specs.KeyBytes.{bytes_of}
use Rattle.duk_tree.specs.Derivation.{initial_key_of}
use Rattle.duk_tree.specs.Serial.{iksn_bytes}
use Rattle.duk_commands.specs.Numbers.{iksn_at}
use Rattle.duk_commands.specs.declared.issue.order.Order.{Order}

-- the padding of the key block at a place: six bytes for each place, in their order
abbrev pub padding_at : List ℕ → ℕ → List ℕ
padding_at padding place = take 6 (drop (6 * place) padding)

-- the line of an initial key: its number, its key block and its check value
abbrev pub issued_line : ℕ → List ℕ → List ℕ → List ℕ
issued_line iksn block key =
    codes "issued " ++ encode_upper (iksn_bytes iksn) ++ codes " " ++ block ++ codes " "
    ++ encode_upper (check_value_of key) ++ line_end

-- how many numbers were passed over
abbrev pub passed_over_line : ℕ → List ℕ
passed_over_line count = codes "passed over " ++ decimal count ++ line_end

-- this is the line of the terminal at a place: its key block, under the protection key, says of the
-- terminal's own initial key what B1TX00N says
pub record IsLine (order : Order) (padding : List ℕ) (place : ℕ) (line : List ℕ) : Type 0 where
  pub block : List ℕ
  pub is_block : IsWrittenKeyBlock block (bytes_of order.loading) (header_for InitialKey)
      (initial_key_of order.bdk (iksn_at order.first place)) (padding_at padding place)
  pub line_is : line ≡ issued_line (iksn_at order.first place) block
      (initial_key_of order.bdk (iksn_at order.first place))

-- the lines of the terminals at these places, one after the other
abbrev pub AreLines : Order → List ℕ → List ℕ → List ℕ → Type 0
AreLines order padding [] text = text ≡ []
AreLines order padding (place ∷ later) text =
    (line : List ℕ) × (rest : List ℕ) × IsLine order padding place line
    × AreLines order padding later rest × (text ≡ line ++ rest)
