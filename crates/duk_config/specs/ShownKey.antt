-- How a fault names a key that is none of a configuration's: this project's own.
--
-- A key or a PIN may stand where a name should, and a name may have any bytes: one that may be
-- either is told by its place.
use Rattle.std.specs.Prelude.{◌≡◌, ◌==◌, ◌&&◌, ◌||◌, ◌++◌, nat_le, ℕ, Bool, List, codes, decimal, filter, length, not, if◌then◌else◌}
use Rattle.std.specs.Cmp.Lexicographic.{slice_cmp}
use Rattle.std.specs.List.{list_all}
use Rattle.std.specs.Ordering.{is_gt, nat_cmp}
use Rattle.toml.specs.Data.{Members}
use Rattle.duk_config.specs.ConfigKeys.{is_config_key}
use Rattle.duk_config.specs.Names.{IsFirstUnknown, names}

-- a small letter, `_` or `-`
abbrev pub is_plain_byte : ℕ → Bool
is_plain_byte byte = (nat_le 97 byte && nat_le byte 122) || (byte == 95) || (byte == 45)

-- a name of 1 to 16 of them
abbrev pub is_plain : List ℕ → Bool
is_plain name =
    nat_le 1 (length name) && nat_le (length name) 16 && list_all is_plain_byte name

-- a name is this one, or stands before it in byte order
abbrev pub is_up_to : List ℕ → List ℕ → Bool
is_up_to name other = not (is_gt (slice_cmp nat_cmp other name))

-- the place of a name among those of a table in byte order, counted from 1
abbrev pub place_of : List ℕ → Members → ℕ
place_of name document = length (filter (is_up_to name) (names document))

-- how a key of a table is named: a plain one as it stands in the file
abbrev pub shown_key : List ℕ → Members → List ℕ
shown_key name document =
    if is_plain name then name else (codes "key " ++ decimal (place_of name document))

-- a text names the first key, in byte order, that is none of a configuration's
pub record ShowsUnknown (document : Members) (text : List ℕ) : Type 0 where
  pub name : List ℕ
  pub first : IsFirstUnknown is_config_key document name
  pub text_is : text ≡ shown_key name document
