-- Where the fields of a record's contents stand.
use Rattle.std.proofs.Common.{◌≡◌, ℕ, Option, Some, List, ◌∷◌, ◌++◌, length, length-append, take, drop, replicate, get_or, sym, ap, ◌∙◌, arith}
use Rattle.std.proofs.lemmas.List.{drop-drop, drop_at, get_or-drop, length-replicate, take_at}
use Rattle.byteorder.specs.Endian.{big_bytes, big_number}
use Rattle.byteorder.specs.Numbers.{big_number-reads_back, length-bytes_high_first}
use Rattle.duk_tree.specs.Serial.{Serial, serial_bytes}
use Rattle.duk_journal.specs.Entry.{figure_of, kind_of, outcome_of}
use Rattle.duk_journal.specs.RecordFormat.{SaysEntry, contents_of}
use Rattle.duk_journal.specs.declared.entry.Entry.{Entry}
use Rattle.duk_journal.specs.declared.record_format.Contents.{Contents}

-- the length of contents
pub contents_length : (followers : ℕ) (entry : Entry) → ((serial : Serial) → length (serial_bytes serial) ≡ 10) → length entry.mac ≡ 8 → length (contents_of followers entry) ≡ 31
unfolding contents_of
contents_length followers entry ten eight =
    let last : List ℕ = entry.mac ++ replicate 5 0 in
    let figure : List ℕ = big_bytes 4 (figure_of entry.decided) in
    let outcome : ℕ = outcome_of entry.decided in
    let behind : List ℕ = figure ++ (outcome ∷ last) in
    omega (
      arith,
      length-append (big_bytes 2 followers) (serial_bytes entry.number ++ behind),
      length-bytes_high_first 2 followers,
      length-append (serial_bytes entry.number) behind,
      ten entry.number,
      length-append figure (outcome ∷ last),
      length-bytes_high_first 4 (figure_of entry.decided),
      length-append entry.mac (replicate 5 0),
      eight,
      length-replicate {A = ℕ} 5 0,
    )

-- what stands where contents have their fields
pub record FieldPlaces (bytes : List ℕ) (contents : Contents) : Type 0 where
  pub kind_is : get_or bytes 0 0 ≡ kind_of contents.entry.decided
  pub followers_is : big_number 2 (drop 1 bytes) ≡ contents.followers
  pub number_is : take 10 (drop 3 bytes) ≡ serial_bytes contents.entry.number
  pub figure_is : big_number 4 (drop 13 bytes) ≡ figure_of contents.entry.decided
  pub outcome_is : get_or bytes 17 0 ≡ outcome_of contents.entry.decided
  pub mac_is : take 8 (drop 18 bytes) ≡ contents.entry.mac

pub field_places : (bytes : List ℕ) (contents : Contents) → ((serial : Serial) → length (serial_bytes serial) ≡ 10) → SaysEntry contents.followers contents.entry bytes → FieldPlaces bytes contents
unfolding contents_of
field_places bytes contents ten are =
    let entry = contents.entry in
    let followers : List ℕ = big_bytes 2 contents.followers in
    let number : List ℕ = serial_bytes entry.number in
    let figure : List ℕ = big_bytes 4 (figure_of entry.decided) in
    let outcome : ℕ = outcome_of entry.decided in
    let last : List ℕ = entry.mac ++ replicate 5 0 in
    let one : drop 1 bytes ≡ followers ++ (number ++ (figure ++ (outcome ∷ last))) = ap (drop 1) are.written in
    let two : drop 3 bytes ≡ number ++ (figure ++ (outcome ∷ last)) =
    sym (drop-drop 2 1 bytes) ∙ ap (drop 2) one ∙ drop_at followers (number ++ (figure ++ (outcome ∷ last))) 2 (length-bytes_high_first 2 contents.followers) in
    let three : drop 13 bytes ≡ figure ++ (outcome ∷ last) = sym (drop-drop 10 3 bytes) ∙ ap (drop 10) two ∙ drop_at number (figure ++ (outcome ∷ last)) 10 (ten entry.number) in
    let four : drop 17 bytes ≡ outcome ∷ last = sym (drop-drop 4 13 bytes) ∙ ap (drop 4) three ∙ drop_at figure (outcome ∷ last) 4 (length-bytes_high_first 4 (figure_of entry.decided)) in
    let five : drop 18 bytes ≡ last = sym (drop-drop 1 17 bytes) ∙ ap (drop 1) four in
    record {
      kind_is = ap (λ (l : List ℕ). get_or l 0 0) are.written;
      followers_is = ap (big_number 2) one ∙ big_number-reads_back 2 contents.followers (number ++ (figure ++ (outcome ∷ last))) (omega (arith, are.followers_fit));
      number_is = ap (take 10) two ∙ take_at number (figure ++ (outcome ∷ last)) 10 (ten entry.number);
      figure_is = ap (big_number 4) three ∙ big_number-reads_back 4 (figure_of entry.decided) (outcome ∷ last) are.entry_is.figure_fits;
      outcome_is = sym (get_or-drop 17 bytes 0 0) ∙ ap (λ (l : List ℕ). get_or l 0 0) four;
      mac_is = ap (take 8) five ∙ take_at entry.mac (replicate 5 0) 8 are.entry_is.mac_length;
    }

-- contents with the same fields are one
pub same_contents : (a b : Contents) → a.followers ≡ b.followers → a.entry.number ≡ b.entry.number → a.entry.decided ≡ b.entry.decided → a.entry.mac ≡ b.entry.mac → a ≡ b
same_contents a b followers number decided mac =
    let one : a.entry ≡ b.entry =
    ap (λ number. record a.entry { number = number }) number
    ∙ ap (λ decided. record b.entry { decided = decided; mac = a.entry.mac }) decided
    ∙ ap (λ mac. record b.entry { mac = mac }) mac in
    ap (λ followers. record a { followers = followers }) followers ∙ ap (λ entry. record b { entry = entry }) one

-- what was read, where the right one would have been found
pub same_some : {X : Type 0} (x y : X) (found : Option X) → found ≡ Some x → found ≡ Some y → x ≡ y
same_some x y found one two = cc
