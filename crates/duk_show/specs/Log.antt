-- What `show` prints of the log of used numbers, and where the reading of one stops (this project's
-- own, over its format).
use Rattle.std.specs.Prelude.{◌≡◌, ◌≢◌, ◌⊎◌, ◌<◌, ◌≤◌, ◌+◌, ◌-◌, ◌*◌, ◌/◌, ⊤, if◌then◌else◌, ℕ, Bool, List, [], ◌∷◌, ◌++◌, All, AllPairs, codes, decimal, length, nat_eq, replicate, take}
use Rattle.std.specs.Bool.{MatchBool}
use Rattle.std.specs.List.{filter, list_any}
use Rattle.hex.specs.Hex.{encode_upper}
use Rattle.duk_commands.specs.Lines.{text_line}
use Rattle.duk_host.specs.Used.{AreUsable, Lists}
use Rattle.duk_store.specs.Log.{Numbers}
use Rattle.duk_store.specs.RecordFormat.{HasRecordNumber, IsLogSize, KeepsNumbers, after_number, record_at, record_length}
use Rattle.duk_store.specs.SlotFormat.{IsOpen}
use Rattle.duk_tree.specs.Serial.{Serial, iksn_bytes, serial_bytes}
use Rattle.duk_show.specs.declared.fault.ShowFault.{ShowFault}
use Rattle.duk_show.specs.declared.fault.ShowFault.TheVariants.{LogRefused, OutOfMemory}

-- a number of the terminal with this initial key serial number
abbrev pub is_of : ℕ → Serial → Bool
is_of iksn number = nat_eq number.iksn iksn

-- the last of some numbers, after one that comes before them
abbrev pub last_after : Serial → List Serial → Serial
last_after number [] = number
last_after number (next ∷ more) = last_after next more

-- the line of the terminal of a number, where it is the first of these: its initial key serial
-- number, how many of them are its own, the first and the last
abbrev pub terminal_line : Serial → List Serial → List ℕ
terminal_line first numbers =
    let own = filter (is_of first.iksn) numbers in
    text_line (codes "terminal")
    (encode_upper (iksn_bytes first.iksn) ++ codes " " ++ decimal (length own) ++ codes " "
    ++ encode_upper (serial_bytes first) ++ codes " "
    ++ encode_upper (serial_bytes (last_after first own)))

-- the line of the terminal of a number, where it is the first of that terminal: none before it is
-- one
abbrev pub lines_if_first : List Serial → Serial → List Serial → List ℕ
lines_if_first before number from =
    if list_any (is_of number.iksn) before then [] else terminal_line number from

-- the lines of the terminals of some numbers, in the order of their first ones, after numbers that
-- came before
abbrev pub terminal_lines : List Serial → List Serial → List ℕ
terminal_lines before [] = []
terminal_lines before (number ∷ more) =
    lines_if_first before number (number ∷ more) ++ terminal_lines (before ++ number ∷ []) more

-- the lines of a log of so many records that keeps these numbers
abbrev pub log_lines : ℕ → List Serial → List ℕ
log_lines records numbers =
    text_line (codes "numbers") (decimal (length numbers))
    ++ text_line (codes "room") (decimal (records - length numbers))
    ++ terminal_lines [] numbers

-- the used numbers are those of a list, and with one more they are those of the list with it; or
-- that list is not one of usable numbers
abbrev pub IsTaken : Numbers → Serial → Numbers → Bool → Type 0
IsTaken used ksn more goes =
    (numbers : Numbers) → Lists numbers used
    → MatchBool goes (Lists (numbers ++ ksn ∷ []) more) (¬ AreUsable (numbers ++ ksn ∷ []))

-- numbers that a ledger keeps: initial key serial numbers, and none of them twice
pub record AreIssued (numbers : List Serial) : Type 0 where
  pub initial : All (λ number. number.counter ≡ 0) numbers
  pub once : AllPairs (λ earlier later. earlier ≢ later) numbers

-- numbers that one log keeps: those with which a host comes up, or those of a ledger
abbrev pub AreOfOneLog : List Serial → Type 0
AreOfOneLog numbers = AreUsable numbers ⊎ AreIssued numbers

-- the numbers before this place are such, and with the one at this place they are not
pub record IsFirstOther (Are : List Serial → Type 0) (numbers : List Serial) (place : ℕ)
    : Type 0 where
  pub there : place < length numbers
  pub before : Are (take place numbers)
  pub with_it : ¬ Are (take (place + 1) numbers)

-- the bytes are those of a log of a host or of a ledger, and these are its lines
pub record IsLogText (bytes text : List ℕ) : Type 0 where
  pub numbers : List Serial
  pub size : IsLogSize (length bytes)
  pub keeps : KeepsNumbers bytes numbers
  pub of_one_log : AreOfOneLog numbers
  pub text_is : text ≡ log_lines (length bytes / record_length) numbers

-- the first records are those of a log that keeps so many numbers
pub record BeginsLog (records count : ℕ) (bytes : List ℕ) : Type 0 where
  pub within : count ≤ records
  pub kept : (place : ℕ) → place < count → HasRecordNumber (record_at place bytes)
  pub closed : (place : ℕ) → count ≤ place → place < records → ¬ IsOpen (record_at place bytes)

-- the record at a place is not whole: the bytes end in it, or there is none at all
pub record IsCutRecord (place : ℕ) (bytes : List ℕ) : Type 0 where
  pub begins : record_length * place ≤ length bytes
  pub ends : length bytes < record_length * place + record_length
  pub some : length bytes ≡ record_length * place → place ≡ 0

-- the record at a place is open after a closed one, where so many have numbers, or lacks its zeros
pub record IsWrongRecord (place count : ℕ) (bytes : List ℕ) : Type 0 where
  pub is_open : IsOpen (record_at place bytes)
  pub why : (count < place) ⊎ ¬ (after_number (record_at place bytes) ≡ replicate 5 0)

-- the first record that is in no log
pub record IsDamagedAt (bytes : List ℕ) (place : ℕ) : Type 0 where
  pub count : ℕ
  pub begins : BeginsLog place count bytes
  pub wrong : IsCutRecord place bytes ⊎ IsWrongRecord place count bytes

-- the bytes are those of a log
pub record IsSomeLog (bytes : List ℕ) : Type 0 where
  pub numbers : List Serial
  pub size : IsLogSize (length bytes)
  pub keeps : KeepsNumbers bytes numbers

-- the bytes are those of a log, and the number at this place is the first that is not of one log
-- with those before it
pub record HasOtherAt (bytes : List ℕ) (place : ℕ) : Type 0 where
  pub numbers : List Serial
  pub size : IsLogSize (length bytes)
  pub keeps : KeepsNumbers bytes numbers
  pub first : IsFirstOther AreOfOneLog numbers place

-- the bytes are those of no log, since this record is in none
pub record IsNoLog (bytes : List ℕ) (place : ℕ) : Type 0 where
  pub damaged : IsDamagedAt bytes place
  pub no_numbers : (numbers : List Serial) → IsLogSize (length bytes)
      → ¬ KeepsNumbers bytes numbers

-- why bytes are not shown as a log: the first record that is in none, or else the first whose number
-- is not of one log with those before it; memory may be refused
abbrev pub IsLogRefused : List ℕ → ShowFault → Type 0
IsLogRefused bytes (LogRefused place) = IsNoLog bytes place ⊎ HasOtherAt bytes place
IsLogRefused bytes OutOfMemory = ⊤
IsLogRefused bytes why = ⊥
