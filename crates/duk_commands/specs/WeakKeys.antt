-- Weak keys of TDES (NIST SP 800-67 Rev. 2 section 3.3.2), parity apart. The names are this
-- project's own.
use Rattle.std.specs.Prelude.{◌/◌, ◌&&◌, ◌||◌, ℕ, Bool, List, [], ◌∷◌, Option, Some, None, codes, is_some, map, replicate, if◌then◌else◌}
use Rattle.std.specs.Int.{w64, to_be_bytes}
use Rattle.std.specs.List.{list_any}
use Rattle.std.specs.Str.{bytes_eq}
use Rattle.duk_commands.specs.Lines.{text_line}
use Rattle.duk_commands.specs.declared.weak_keys.DesKeys.{DesKeys}
use Rattle.duk_tdes.specs.Tdes.{first_key, second_key, third_key}

-- the keys of DES that a key of TDES has: K1, K2 and K3
abbrev pub des_keys : List ℕ → DesKeys
des_keys key =
    record { first = first_key key; second = second_key key; third = third_key key }

-- of each byte of a key the seven bits that are not its parity bit, which is the last
abbrev pub without_parity : List ℕ → List ℕ
without_parity key = map (λ byte. byte / 2) key

-- two keys are equal but for their parity bits
abbrev pub is_equal_but_for_parity : List ℕ → List ℕ → Bool
is_equal_but_for_parity key other = bytes_eq (without_parity key) (without_parity other)

-- the four weak keys of DES, and the six pairs of its semi-weak ones (section 3.3.2)
abbrev pub weak_keys : List ℕ
weak_keys =
    0x0101_0101_0101_0101 ∷ 0xFEFE_FEFE_FEFE_FEFE ∷ 0xE0E0_E0E0_F1F1_F1F1 ∷ 0x1F1F_1F1F_0E0E_0E0E
    ∷ 0x011F_011F_010E_010E ∷ 0x1F01_1F01_0E01_0E01
    ∷ 0x01E0_01E0_01F1_01F1 ∷ 0xE001_E001_F101_F101
    ∷ 0x01FE_01FE_01FE_01FE ∷ 0xFE01_FE01_FE01_FE01
    ∷ 0x1FE0_1FE0_0EF1_0EF1 ∷ 0xE01F_E01F_F10E_F10E
    ∷ 0x1FFE_1FFE_0EFE_0EFE ∷ 0xFE1F_FE1F_FE0E_FE0E
    ∷ 0xE0FE_E0FE_F1FE_F1FE ∷ 0xFEE0_FEE0_FEF1_FEF1
    ∷ []

-- a key of DES is weak or semi-weak
abbrev pub is_weak : List ℕ → Bool
is_weak key = list_any (λ weak. is_equal_but_for_parity key (to_be_bytes w64 weak)) weak_keys

-- a key of DES is zeros
abbrev pub is_zeros : List ℕ → Bool
is_zeros key = is_equal_but_for_parity key (replicate 8 0)

-- each key of DES is zeros
abbrev pub are_zeros : DesKeys → Bool
are_zeros keys = is_zeros keys.first && is_zeros keys.second && is_zeros keys.third

-- two keys of DES in turn are equal, so that one undoes the other, and TDES is single DES
abbrev pub is_single : DesKeys → Bool
is_single keys = is_equal_but_for_parity keys.first keys.second
    || is_equal_but_for_parity keys.second keys.third

-- one key of DES is weak
abbrev pub has_weak : DesKeys → Bool
has_weak keys = is_weak keys.first || is_weak keys.second || is_weak keys.third

-- why a key of TDES is weak, in a word
abbrev pub weakness : DesKeys → Option (List ℕ)
weakness keys = if are_zeros keys then Some (codes "zeros")
    else (if is_single keys then Some (codes "halves")
    else (if has_weak keys then Some (codes "DES") else None))

-- a key of TDES is weak
abbrev pub is_weak_key : List ℕ → Bool
is_weak_key key = is_some (weakness (des_keys key))

-- the line of a word that says why a key is weak
abbrev pub line_of_weakness : Option (List ℕ) → List ℕ
line_of_weakness None = []
line_of_weakness (Some word) = text_line (codes "weak") word

-- the line that says why a key is weak, where it is
abbrev pub weak_line : List ℕ → List ℕ
weak_line key = line_of_weakness (weakness (des_keys key))
