-- The keys of a block of counters, in rows and lanes: this project's own.
use Rattle.std.specs.Prelude.{◌≡◌, ◌<◌, ◌≤◌, ◌+◌, ◌*◌, ℕ, List, [], IfSome, slice_index_or}
use Rattle.duk_lanes.specs.Words.{wide_lane}
use Rattle.duk_tree.specs.Derivation.{transaction_key_of}
use Rattle.duk_tree.specs.Serial.{low_bytes}
use Rattle.duk_group.specs.Blocks.{block_of, key_of}
use Rattle.duk_group.specs.Numbers.{bytes_at}
use Rattle.duk_group.specs.declared.block.Block.{Block}
use Rattle.duk_group.specs.declared.transposed.TheConstants.{WIDTH}

-- the key in a row, of a lane
abbrev pub key_in : List (List (List ℕ)) → ℕ → ℕ → List ℕ
key_in rows low i = bytes_at (slice_index_or rows low []) i

-- the rows from one to another have the keys of their counters: lane i has 64 counters from
-- base + 64 * i on, one in each row
abbrev pub AreRowsFrom : List ℕ → ℕ → ℕ → ℕ → ℕ → List (List (List ℕ)) → Type 0
AreRowsFrom initial iksn base first end rows =
    (low i : ℕ) → first ≤ low → low < end → i < WIDTH
    → key_in rows low i ≡ transaction_key_of initial iksn (base + 64 * i + low)

-- so do all rows
abbrev pub AreKeysFrom : List ℕ → ℕ → ℕ → List (List (List ℕ)) → Type 0
AreKeysFrom initial iksn base = AreRowsFrom initial iksn base 0 64

-- the lanes have the keys of one row
abbrev pub AreLanesAt : List ℕ → ℕ → ℕ → ℕ → List (List ℕ) → List (List ℕ) → Type 0
AreLanesAt initial iksn base low left right =
    (i : ℕ) → i < WIDTH
    → key_of wide_lane i left right ≡ transaction_key_of initial iksn (base + 64 * i + low)

-- the lanes have the low 64 bits of the key serial number of row 0
abbrev pub AreRegistersFrom : ℕ → ℕ → List (List ℕ) → Type 0
AreRegistersFrom iksn base registers =
    (i : ℕ) → i < WIDTH
    → block_of wide_lane i registers ≡ low_bytes (record { iksn = iksn; counter = base + 64 * i })

-- a block, if there is one, has the keys of its counters
abbrev pub IsBlockOf : List ℕ → ℕ → Block → Type 0
IsBlockOf initial iksn block = IfSome block.base (λ base. AreKeysFrom initial iksn base block.rows)
