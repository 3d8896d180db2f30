-- What the characters of a key block's header mean: the tables of ANSI X9.143 (ASC X9 TR-31) for
-- key usage, algorithm, mode of use and exportability. The words are this project's own.
use Rattle.std.specs.Prelude.{ℕ, List, [], ◌∷◌, codes, nat_eq, if◌then◌else◌}
use Rattle.std.specs.Cmp.Lexicographic.{pointwise}

-- a value of a field, and its name
abbrev pub Named : Type 0
Named = List ℕ × List ℕ

-- the key usages
abbrev pub usage_names : List Named
usage_names =
    (codes "B0", codes "base derivation key")
    ∷ (codes "B1", codes "initial DUKPT key")
    ∷ (codes "B2", codes "base key variant key")
    ∷ (codes "B3", codes "key derivation key, not ANSI X9.24")
    ∷ (codes "C0", codes "card verification key")
    ∷ (codes "D0", codes "symmetric key for data encryption")
    ∷ (codes "D1", codes "asymmetric key for data encryption")
    ∷ (codes "D2", codes "data encryption key for a decimalization table")
    ∷ (codes "D3", codes "data encryption key for sensitive data")
    ∷ (codes "E0", codes "EMV issuer master key, application cryptograms")
    ∷ (codes "E1", codes "EMV issuer master key, secure messaging for confidentiality")
    ∷ (codes "E2", codes "EMV issuer master key, secure messaging for integrity")
    ∷ (codes "E3", codes "EMV issuer master key, data authentication code")
    ∷ (codes "E4", codes "EMV issuer master key, dynamic numbers")
    ∷ (codes "E5", codes "EMV issuer master key, card personalization")
    ∷ (codes "E6", codes "EMV issuer master key, other")
    ∷ (codes "E7", codes "EMV asymmetric key pair for PIN block encryption")
    ∷ (codes "I0", codes "initialization vector")
    ∷ (codes "K0", codes "key encryption or wrapping")
    ∷ (codes "K1", codes "TR-31 key block protection key")
    ∷ (codes "K2", codes "TR-34 asymmetric key")
    ∷ (codes "K3", codes "asymmetric key for key agreement or key wrapping")
    ∷ (codes "K4", codes "ISO 20038 key block protection key")
    ∷ (codes "M0", codes "ISO 16609 MAC algorithm 1, using TDEA")
    ∷ (codes "M1", codes "ISO 9797-1 MAC algorithm 1")
    ∷ (codes "M2", codes "ISO 9797-1 MAC algorithm 2")
    ∷ (codes "M3", codes "ISO 9797-1 MAC algorithm 3")
    ∷ (codes "M4", codes "ISO 9797-1 MAC algorithm 4")
    ∷ (codes "M5", codes "ISO 9797-1:1999 MAC algorithm 5")
    ∷ (codes "M6", codes "ISO 9797-1:2011 MAC algorithm 5, CMAC")
    ∷ (codes "M7", codes "HMAC")
    ∷ (codes "M8", codes "ISO 9797-1:2011 MAC algorithm 6")
    ∷ (codes "P0", codes "PIN encryption")
    ∷ (codes "P1", codes "PIN generation")
    ∷ (codes "S0", codes "asymmetric key pair for digital signature")
    ∷ (codes "S1", codes "asymmetric key pair, CA key")
    ∷ (codes "S2", codes "asymmetric key pair, not ANSI X9.24")
    ∷ (codes "V0", codes "PIN verification, other algorithm")
    ∷ (codes "V1", codes "PIN verification, IBM 3624")
    ∷ (codes "V2", codes "PIN verification, VISA PVV")
    ∷ (codes "V3", codes "PIN verification, ANSI X9.132 algorithm 1")
    ∷ (codes "V4", codes "PIN verification, ANSI X9.132 algorithm 2")
    ∷ (codes "V5", codes "PIN verification, ANSI X9.132 algorithm 3")
    ∷ []

-- the algorithms
abbrev pub algorithm_names : List Named
algorithm_names =
    (codes "A", codes "AES")
    ∷ (codes "D", codes "DEA")
    ∷ (codes "E", codes "elliptic curve")
    ∷ (codes "H", codes "HMAC")
    ∷ (codes "R", codes "RSA")
    ∷ (codes "S", codes "DSA")
    ∷ (codes "T", codes "TDEA")
    ∷ []

-- the modes of use
abbrev pub mode_names : List Named
mode_names =
    (codes "B", codes "both encrypt and decrypt, or wrap and unwrap")
    ∷ (codes "C", codes "both generate and verify")
    ∷ (codes "D", codes "decrypt or unwrap only")
    ∷ (codes "E", codes "encrypt or wrap only")
    ∷ (codes "G", codes "generate only")
    ∷ (codes "N", codes "no special restrictions")
    ∷ (codes "S", codes "signature only")
    ∷ (codes "T", codes "both sign and decrypt")
    ∷ (codes "V", codes "verify only")
    ∷ (codes "X", codes "derive other keys")
    ∷ (codes "Y", codes "create key variants")
    ∷ []

-- the exportabilities
abbrev pub exportability_names : List Named
exportability_names =
    (codes "E", codes "exportable under a trusted key, in a form of ANSI X9.24")
    ∷ (codes "N", codes "not exportable")
    ∷ (codes "S", codes "sensitive, exportable under a key in another form")
    ∷ []

-- the name of a value in a table, `unknown` where it has none
abbrev pub name_in : List Named → List ℕ → List ℕ
name_in [] value = codes "unknown"
name_in (entry ∷ more) value =
    if pointwise nat_eq entry.0 value then entry.1 else name_in more value

-- a key usage in words
unfoldable pub usage_name : List ℕ → List ℕ
usage_name = name_in usage_names

-- an algorithm in words
unfoldable pub algorithm_name : ℕ → List ℕ
algorithm_name algorithm = name_in algorithm_names (algorithm ∷ [])

-- a mode of use in words
unfoldable pub mode_name : ℕ → List ℕ
mode_name mode = name_in mode_names (mode ∷ [])

-- an exportability in words
unfoldable pub exportability_name : ℕ → List ℕ
exportability_name exportability = name_in exportability_names (exportability ∷ [])
