-- The key blocks and check values of terminals that are made together: this project's own.
use Rattle.std.specs.Prelude.{◌≡◌, ◌<◌, ◌+◌, ℕ, List, IfSome}
use Rattle.duk_block.specs.KeyBlock.{IsWrittenKeyBlock}
use Rattle.duk_block.specs.KeyUse.{header_for}
use Rattle.duk_block.specs.declared.key_use.KeyUse.TheVariants.{InitialKey}
use Rattle.duk_group.specs.Numbers.{bytes_at}
use Rattle.duk_group.specs.declared.transposed.TheConstants.{WIDTH}
use Rattle.duk_mac.specs.CheckValue.{check_value_of}
use Rattle.duk_tdes.specs.KeyBytes.{bytes_of}
use Rattle.duk_tree.specs.Derivation.{initial_key_of}
use Rattle.duk_commands.specs.IssuedLines.{padding_at}
use Rattle.duk_commands.specs.Numbers.{iksn_at}
use Rattle.duk_commands.specs.declared.issue.group.LineGroup.{LineGroup}
use Rattle.duk_commands.specs.declared.issue.order.Order.{Order}

-- the initial key of the terminal at a place
abbrev pub initial_key_at : Order → ℕ → List ℕ
initial_key_at order place = initial_key_of order.bdk (iksn_at order.first place)

-- a key block and a check value of the initial key of the terminal at a place
pub record AreOfPlace (order : Order) (padding : List ℕ) (place : ℕ) (block value : List ℕ)
    : Type 0 where
  pub is_block : IsWrittenKeyBlock block (bytes_of order.loading) (header_for InitialKey)
      (initial_key_at order place) (padding_at padding place)
  pub is_value : value ≡ check_value_of (initial_key_at order place)

-- those of the terminals from a place on, one in each lane, as far as the order goes
abbrev pub AreFrom : Order → List ℕ → ℕ → List (List ℕ) → List (List ℕ) → Type 0
AreFrom order padding base blocks values =
    (i : ℕ) → i < WIDTH → base + i < order.count
    → AreOfPlace order padding (base + i) (bytes_at blocks i) (bytes_at values i)

-- a group, if there is one, has those from its first place on
abbrev pub IsGroupOf : Order → List ℕ → LineGroup → Type 0
IsGroupOf order padding group =
    IfSome group.base (λ base. AreFrom order padding base group.blocks group.values)
