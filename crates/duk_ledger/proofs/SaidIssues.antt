-- What the contents of a ledger's record say.
use Rattle.std.proofs.Common.{◌≡◌, ℕ, ◌+◌, ◌<◌, ◌^◌, ◌==◌, if◌then◌else◌, Option, Some, None, List, [], ◌∷◌, ◌++◌, length, length-append, take, drop, replicate, get_or, refl, sym, ◌∙◌, ap, arith}
use Rattle.std.proofs.lemmas.List.{append_assoc, drop-drop, drop_at, length-replicate, take_at}
use Rattle.std.specs.Prelude.{IfSome}
use Rattle.byteorder.specs.Endian.{big_bytes, big_number, little_bytes}
use Rattle.byteorder.specs.Numbers.{big_number-reads_back, length-bytes_high_first, length-bytes_low_first}
use Rattle.duk_journal.specs.CheckedFormat.{IsChecked, check_bytes, check_of, said_of}
use Rattle.duk_journal.specs.Header.{header_of}
use Rattle.duk_store.specs.DiskRecords.{IsHeaderOf}
use Rattle.duk_tree.specs.Serial.{IsIksn, IsSerial, Serial, iksn_bytes, serial_bytes, serial_of_bytes}
use Rattle.duk_ledger.specs.Issued.{AreFields, AreMadeFields}
use Rattle.duk_ledger.specs.IssuedFormat.{SaysIssued, issued_format, kind_of, ledger_kind, made_bytes, said_by}
use Rattle.duk_ledger.specs.inner.IssuedFormat.{issued_in, made_in}
use Rattle.duk_ledger.specs.declared.issued.Issued.{Issued}
use Rattle.duk_ledger.specs.declared.issued.Made.{Made}

check_length : (identity place : ℕ) (said : List ℕ) → length (check_bytes identity place said) ≡ 5
check_length identity place said =
    let check : ℕ = check_of identity place said in
    omega (arith, length-append (little_bytes 4 check) (0 ∷ []), length-bytes_low_first 0 4 check)

made_length : (made : Option Made) → IfSome made AreMadeFields → length (made_bytes made) ≡ 10
made_length None fields = length-replicate {A = ℕ} 10 0
made_length (Some made) fields =
    let run : List ℕ = big_bytes 4 made.run in
    omega (
      arith,
      length-append made.key (made.key_set ++ run),
      length-append made.key_set run,
      length-bytes_high_first 4 made.run,
      fields.key_length,
      fields.key_set_length,
    )

-- contents of which the first byte is the kind, and these bytes stand behind the number
made_back : (made : Made) (contents rest : List ℕ) → AreMadeFields made → drop 13 contents ≡ made_bytes (Some made) ++ rest → made_in contents ≡ made
made_back made contents rest fields is =
    let run : List ℕ = big_bytes 4 made.run in
    let one : drop 13 contents ≡ made.key ++ (made.key_set ++ (run ++ rest)) =
    is ∙ append_assoc made.key (made.key_set ++ run) rest ∙ ap (λ (l : List ℕ). made.key ++ l) (append_assoc made.key_set run rest) in
    let two : drop 16 contents ≡ made.key_set ++ (run ++ rest) = sym (drop-drop 3 13 contents) ∙ ap (drop 3) one ∙ drop_at made.key (made.key_set ++ (run ++ rest)) 3 fields.key_length in
    let three : drop 19 contents ≡ run ++ rest = sym (drop-drop 3 16 contents) ∙ ap (drop 3) two ∙ drop_at made.key_set (run ++ rest) 3 fields.key_set_length in
    let key : take 3 (drop 13 contents) ≡ made.key = ap (take 3) one ∙ take_at made.key (made.key_set ++ (run ++ rest)) 3 fields.key_length in
    let key_set : take 3 (drop 16 contents) ≡ made.key_set = ap (take 3) two ∙ take_at made.key_set (run ++ rest) 3 fields.key_set_length in
    let number : big_number 4 (drop 19 contents) ≡ made.run = ap (big_number 4) three ∙ big_number-reads_back 4 made.run rest (omega (arith, fields.run_fits)) in
    ap (λ (it : List ℕ). let m : Made = record { key = it; key_set = take 3 (drop 16 contents); run = big_number 4 (drop 19 contents) } in m) key
    ∙ ap (λ (it : List ℕ). let m : Made = record { key = made.key; key_set = it; run = big_number 4 (drop 19 contents) } in m) key_set
    ∙ ap (λ (it : ℕ). let m : Made = record { key = made.key; key_set = made.key_set; run = it } in m) number

issue_of : ℕ → Option Made → Issued
issue_of number made = record { number = number; made = made }

one_issue : (number other : ℕ) (made same : Option Made) → number ≡ other → made ≡ same → issue_of number made ≡ issue_of other same
one_issue number other made same numbers mades = ap (λ it. issue_of it made) numbers ∙ ap (λ it. issue_of other it) mades

with_kind : (contents : List ℕ) (kind : ℕ) → get_or contents 0 0 ≡ kind → issued_in contents ≡ issue_of (serial_of_bytes (take 10 (drop 3 contents))).iksn (if kind == 1 then Some (made_in contents) else None)
unfolding issue_of
with_kind contents kind is = ap (λ (it : ℕ). issue_of (serial_of_bytes (take 10 (drop 3 contents))).iksn (if it == 1 then Some (made_in contents) else None)) is

same_issue : (contents rest : List ℕ) (number : ℕ) (made : Option Made) → IfSome made AreMadeFields → get_or contents 0 0 ≡ kind_of made → drop 13 contents ≡ made_bytes made ++ rest
    → (serial_of_bytes (take 10 (drop 3 contents))).iksn ≡ number → issued_in contents ≡ issue_of number made
same_issue contents rest number None fields kind is same = with_kind contents 2 kind ∙ one_issue (serial_of_bytes (take 10 (drop 3 contents))).iksn number None None same refl
same_issue contents rest number (Some made) fields kind is same =
    with_kind contents 1 kind ∙ one_issue (serial_of_bytes (take 10 (drop 3 contents))).iksn number (Some (made_in contents)) (Some made) same (ap Some (made_back made contents rest fields is))

module _ (ten : (serial : Serial) → length (serial_bytes serial) ≡ 10) where
  pub said_length : (issued : Issued) → AreFields issued → length (said_by issued) ≡ 26
  unfolding said_by
  said_length issued fields =
      let made : List ℕ = made_bytes issued.made in
      omega (
        arith,
        length-append (iksn_bytes issued.number) (made ++ replicate 3 0),
        ten (record { iksn = issued.number; counter = 0 }),
        length-append made (replicate 3 0),
        made_length issued.made fields.made,
        length-replicate {A = ℕ} 3 0,
      )

  pub whole : (identity place : ℕ) (issued : Issued) → AreFields issued → length (said_by issued ++ check_bytes identity place (said_by issued)) ≡ 31
  whole identity place issued fields =
      omega (arith, length-append (said_by issued) (check_bytes identity place (said_by issued)), said_length issued fields, check_length identity place (said_by issued))

  pub says_checked : (identity place followers : ℕ) (issued : Issued) (contents : List ℕ) → SaysIssued identity place followers issued contents → IsChecked identity place contents
  says_checked identity place followers issued contents says =
      let said : List ℕ = said_by issued in
      let check : List ℕ = check_bytes identity place said in
      let long = said_length issued says.fields in
      let front : said_of contents ≡ said = ap (take 26) says.written ∙ take_at said check 26 long in
      ap (drop 26) says.written ∙ drop_at said check 26 long ∙ ap (check_bytes identity place) (sym front)

  module _ (found : (serial : Serial) → IsSerial serial → serial_of_bytes (serial_bytes serial) ≡ serial) where
    number_back : (number : ℕ) → IsIksn number → (serial_of_bytes (iksn_bytes number)).iksn ≡ number
    number_back number is =
        ap (λ (serial : Serial). serial.iksn) (found (record { iksn = number; counter = 0 }) (record { iksn_is = is; counter_fits = omega arith }))

    -- an issue is found again in what is written of it
    pub issued_back : (issued : Issued) (contents rest : List ℕ) → AreFields issued → contents ≡ said_by issued ++ rest → issued_in contents ≡ issued
    unfolding said_by issue_of
    issued_back issued contents rest fields is =
        let number : List ℕ = iksn_bytes issued.number in
        let made : List ℕ = made_bytes issued.made in
        let behind : List ℕ = replicate 3 0 ++ rest in
        let three : drop 3 contents ≡ number ++ (made ++ behind) =
        ap (drop 3) is ∙ append_assoc number (made ++ replicate 3 0) rest ∙ ap (λ (l : List ℕ). number ++ l) (append_assoc made (replicate 3 0) rest) in
        let thirteen : drop 13 contents ≡ made ++ behind =
        sym (drop-drop 10 3 contents) ∙ ap (drop 10) three ∙ drop_at number (made ++ behind) 10 (ten (record { iksn = issued.number; counter = 0 })) in
        let first : take 10 (drop 3 contents) ≡ number = ap (take 10) three ∙ take_at number (made ++ behind) 10 (ten (record { iksn = issued.number; counter = 0 })) in
        let kind : get_or contents 0 0 ≡ kind_of issued.made = ap (λ (l : List ℕ). get_or l 0 0) is in
        same_issue contents behind issued.number issued.made fields.made kind thirteen
        (ap (λ (l : List ℕ). (serial_of_bytes l).iksn) first ∙ number_back issued.number fields.iksn)

    -- contents say one thing
    pub one_said : (identity place followers others : ℕ) (one other : Issued) (contents : List ℕ) → SaysIssued identity place followers one contents → SaysIssued identity place others other contents → (followers ≡ others) × (one ≡ other)
    one_said identity place followers others one other contents first second = (
      first.alone ∙ sym second.alone,
      sym (issued_back one contents (check_bytes identity place (said_by one)) first.fields first.written) ∙ issued_back other contents (check_bytes identity place (said_by other)) second.fields second.written,
    )

pub header_is : (identity : ℕ) → identity < 2 ^ 64 → length (header_of ledger_kind identity) ≡ 32 → IsHeaderOf issued_format (header_of ledger_kind identity)
header_is identity fits long = record { whole = long ∙ omega arith; header_is = λ has. (identity, fits, refl) }
