-- Contents and headers with their check sums.
use Rattle.std.proofs.Common.{◌≡◌, ℕ, ◌+◌, ◌-◌, ◌<◌, ◌≤◌, ◌^◌, List, [], ◌∷◌, ◌++◌, length, length-append, length-drop, take, drop, replicate, refl, sym, ◌∙◌, ap, arith}
use Rattle.std.proofs.lemmas.List.{append_assoc, drop-drop, drop_at, length-take-le, take-append-drop, take_at}
use Rattle.byteorder.specs.Endian.{big_bytes, big_number, little_bytes}
use Rattle.byteorder.specs.Numbers.{big_number-reads_back, length-bytes_high_first, length-bytes_low_first}
use Rattle.duk_crc.specs.Crc32.{crc32}
use Rattle.duk_tree.specs.Serial.{Serial, serial_bytes}
use Rattle.duk_store.specs.DiskRecords.{IsHeaderOf}
use Rattle.duk_journal.specs.CheckedFormat.{SaysChecked, check_bytes, check_of, checked_format, said_of}
use Rattle.duk_journal.specs.Entry.{IsEntry, figure_of, outcome_of}
use Rattle.duk_journal.specs.Header.{header_of, identity_of, journal_kind, said_in_front}
use Rattle.duk_journal.specs.RecordFormat.{contents_of, most_of_group}
use Rattle.duk_journal.specs.declared.entry.Entry.{Entry}
use Rattle.duk_journal.proofs.FieldPlaces.{contents_length}

-- ---- a header

pub identity_back : (kind identity : ℕ) → identity < 2 ^ 64 → identity_of (header_of kind identity) ≡ identity
unfolding said_in_front
identity_back kind identity fits =
    let check : List ℕ = little_bytes 4 (crc32 (said_in_front kind identity)) in
    ap (big_number 8) (append_assoc (big_bytes 8 identity) (0 ∷ 0 ∷ 0 ∷ 0 ∷ []) check)
    ∙ big_number-reads_back 8 identity ((0 ∷ 0 ∷ 0 ∷ 0 ∷ []) ++ check) (omega (arith, fits))

pub header_length : (kind identity : ℕ) → length (header_of kind identity) ≡ 32
unfolding said_in_front
header_length kind identity =
    let check : ℕ = crc32 (said_in_front kind identity) in
    omega (
      arith,
      length-append (said_in_front kind identity) (little_bytes 4 check),
      length-append (big_bytes 8 identity) (0 ∷ 0 ∷ 0 ∷ 0 ∷ []),
      length-bytes_high_first 8 identity,
      length-bytes_low_first 0 4 check,
    )

pub journal_header_is : (identity : ℕ) → identity < 2 ^ 64 → IsHeaderOf checked_format (header_of journal_kind identity)
journal_header_is identity fits = record {
  whole = header_length journal_kind identity ∙ omega arith;
  header_is = λ has. (identity, fits, refl);
}

-- ---- contents

pub said_length : (contents : List ℕ) → length contents ≡ 31 → length (said_of contents) ≡ 26
said_length contents whole = length-take-le 26 contents (omega (arith, whole))

pub check_length : (identity place : ℕ) (said : List ℕ) → length (check_bytes identity place said) ≡ 5
check_length identity place said =
    let check : ℕ = check_of identity place said in
    omega (arith, length-append (little_bytes 4 check) (0 ∷ []), length-bytes_low_first 0 4 check)

-- the five zeros at the end of contents of version 1
zeros_behind : (followers : ℕ) (entry : Entry) → ((serial : Serial) → length (serial_bytes serial) ≡ 10) → length entry.mac ≡ 8 → drop 26 (contents_of followers entry) ≡ replicate 5 0
unfolding contents_of
zeros_behind followers entry ten eight =
    let number : List ℕ = serial_bytes entry.number in
    let figure : List ℕ = big_bytes 4 (figure_of entry.decided) in
    let outcome : ℕ = outcome_of entry.decided in
    let last : List ℕ = entry.mac ++ replicate 5 0 in
    let bytes : List ℕ = contents_of followers entry in
    let two : drop 3 bytes ≡ number ++ (figure ++ (outcome ∷ last)) = drop_at (big_bytes 2 followers) (number ++ (figure ++ (outcome ∷ last))) 2 (length-bytes_high_first 2 followers) in
    let three : drop 13 bytes ≡ figure ++ (outcome ∷ last) = sym (drop-drop 10 3 bytes) ∙ ap (drop 10) two ∙ drop_at number (figure ++ (outcome ∷ last)) 10 (ten entry.number) in
    let four : drop 17 bytes ≡ outcome ∷ last = sym (drop-drop 4 13 bytes) ∙ ap (drop 4) three ∙ drop_at figure (outcome ∷ last) 4 (length-bytes_high_first 4 (figure_of entry.decided)) in
    let five : drop 18 bytes ≡ last = sym (drop-drop 1 17 bytes) ∙ ap (drop 1) four in
    sym (drop-drop 8 18 bytes) ∙ ap (drop 8) five ∙ drop_at entry.mac (replicate 5 0) 8 eight

-- contents with a check sum say what those without say
pub says_checked : (identity place followers : ℕ) (entry : Entry) (plain contents : List ℕ) → ((serial : Serial) → length (serial_bytes serial) ≡ 10) → IsEntry entry → followers + 1 ≤ most_of_group → plain ≡ contents_of followers entry
    → contents ≡ take 26 plain ++ check_bytes identity place (take 26 plain) → SaysChecked identity place followers entry contents
says_checked identity place followers entry plain contents ten is fits plain_is contents_is =
    let whole : length plain ≡ 31 = ap length plain_is ∙ contents_length followers entry ten is.mac_length in
    let front : List ℕ = take 26 plain in
    let rest : length (drop 26 plain) ≡ 31 - 26 = length-drop 26 plain ∙ ap (λ (n : ℕ). n - 26) whole in
    let front_length : length front ≡ 26 = omega (arith, whole, rest, length-append front (drop 26 plain), ap length (take-append-drop 26 plain)) in
    let said : take 26 contents ≡ front = ap (take 26) contents_is ∙ take_at front (check_bytes identity place front) 26 front_length in
    let zeros : drop 26 plain ≡ replicate 5 0 = ap (drop 26) plain_is ∙ zeros_behind followers entry ten is.mac_length in
    record {
      says = record {
        entry_is = is;
        followers_fit = fits;
        written = ap (λ (l : List ℕ). l ++ replicate 5 0) said ∙ ap (λ (l : List ℕ). front ++ l) (sym zeros) ∙ take-append-drop 26 plain ∙ plain_is;
      };
      check = ap (drop 26) contents_is ∙ drop_at front (check_bytes identity place front) 26 front_length ∙ ap (check_bytes identity place) (sym said);
    }

-- contents with a check sum are those of a whole record
pub checked_length : (identity place followers : ℕ) (entry : Entry) (contents : List ℕ) → SaysChecked identity place followers entry contents → length contents + 1 ≡ 32
checked_length identity place followers entry contents says =
    omega (arith, length-drop 26 contents, ap length says.check, check_length identity place (said_of contents))

-- contents that are written so again have the right check sum
pub checked_again : (identity place : ℕ) (contents : List ℕ) → length contents ≡ 31 → contents ≡ said_of contents ++ check_bytes identity place (said_of contents) → drop 26 contents ≡ check_bytes identity place (said_of contents)
checked_again identity place contents whole is =
    let front : List ℕ = said_of contents in
    ap (drop 26) is ∙ drop_at front (check_bytes identity place front) 26 (said_length contents whole)

pub written_again : (identity place : ℕ) (contents : List ℕ) → drop 26 contents ≡ check_bytes identity place (said_of contents) → contents ≡ said_of contents ++ check_bytes identity place (said_of contents)
written_again identity place contents is = sym (take-append-drop 26 contents) ∙ ap (λ (l : List ℕ). said_of contents ++ l) is
