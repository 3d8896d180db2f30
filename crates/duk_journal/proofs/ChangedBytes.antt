-- Contents of which one byte was changed have the wrong check sum.
use Rattle.std.proofs.Common.{◌≡◌, inl, inr, ℕ, zero, suc, ◌/◌, ◌%◌, ◌<◌, ◌^◌, List, [], ◌∷◌, ◌++◌, length, take, drop, get_or, refl, sym, ◌∙◌, ap, subst, arith}
use Rattle.std.proofs.lemmas.Bool.{cases_lt}
use Rattle.std.proofs.lemmas.List.Elements.{All-append, All-cons, All-nil}
use Rattle.std.proofs.lemmas.List.{append_assoc, take-append-drop, take-append-le}
use Rattle.std.specs.Int.{byte_at}
use Rattle.std.specs.List.{All}
use Rattle.byteorder.specs.Endian.{big_bytes, little_number}
use Rattle.byteorder.specs.Numbers.{little_number-reads_back}
use Rattle.duk_crc.specs.Crc32.{crc32}
use Rattle.duk_journal.specs.CheckedFormat.{IsChecked, check_bytes, check_of, said_of}

abbrev AreBytes : List ℕ → Type 0
AreBytes bytes = All (λ (byte : ℕ). byte < 2 ^ 8) bytes

low_byte : (number : ℕ) → number % 256 < 2 ^ 8
low_byte number = omega arith

byte_fits : (k number : ℕ) → byte_at k number < 2 ^ 8
byte_fits zero number = low_byte number
byte_fits (suc k) number = low_byte (number / 256 ^ suc k)

number_bytes : (n number : ℕ) → AreBytes (big_bytes n number)
number_bytes zero number = All-nil (λ (byte : ℕ). byte < 2 ^ 8)
number_bytes (suc n) number = All-cons (λ (byte : ℕ). byte < 2 ^ 8) (byte_at n number) (big_bytes n number) (byte_fits n number) (number_bytes n number)

-- where a change stands in front of a cut, and where behind it
abbrev front_rest : ℕ → List ℕ → List ℕ → List ℕ
front_rest zero before after = []
front_rest (suc n) [] after = take n after
front_rest (suc n) (byte ∷ before) after = front_rest n before after

taken : (n : ℕ) (before after : List ℕ) (byte : ℕ) → length before < n → take n (before ++ byte ∷ after) ≡ before ++ byte ∷ front_rest n before after
taken zero before after byte less = absurd (omega (arith, less))
taken (suc n) [] after byte less = refl
taken (suc n) (first ∷ before) after byte less = ap (λ (l : List ℕ). first ∷ l) (taken n before after byte (omega (arith, less)))

dropped : (n : ℕ) (before after : List ℕ) (byte changed : ℕ) → length before < n → drop n (before ++ byte ∷ after) ≡ drop n (before ++ changed ∷ after)
dropped zero before after byte changed less = absurd (omega (arith, less))
dropped (suc n) [] after byte changed less = refl
dropped (suc n) (first ∷ before) after byte changed less = dropped n before after byte changed (omega (arith, less))

same_middle : (before after : List ℕ) (byte changed : ℕ) → before ++ byte ∷ after ≡ before ++ changed ∷ after → byte ≡ changed
same_middle [] after byte changed same = ap (λ (l : List ℕ). get_or l 0 0) same
same_middle (first ∷ before) after byte changed same = same_middle before after byte changed (ap (drop 1) same)

bytes_in_front : (n : ℕ) (bytes : List ℕ) → AreBytes bytes → AreBytes (take n bytes)
bytes_in_front zero bytes are = All-nil (λ (byte : ℕ). byte < 2 ^ 8)
bytes_in_front (suc n) [] are = All-nil (λ (byte : ℕ). byte < 2 ^ 8)
bytes_in_front (suc n) (byte ∷ bytes) are =
    All-cons (λ (byte : ℕ). byte < 2 ^ 8) byte (take n bytes) (are 0 0 (omega arith)) (bytes_in_front n bytes (λ k d less. are (suc k) d (omega (arith, less))))

-- the check sum behind tells that in front
same_check : (identity place : ℕ) (one other : List ℕ) → check_bytes identity place one ≡ check_bytes identity place other → check_of identity place one ≡ check_of identity place other
same_check identity place one other same =
    let first : check_of identity place one < 2 ^ 32 = omega arith in
    let second : check_of identity place other < 2 ^ 32 = omega arith in
    sym (little_number-reads_back 4 (check_of identity place one) (0 ∷ []) (omega (arith, first)))
    ∙ ap (little_number 4) same
    ∙ little_number-reads_back 4 (check_of identity place other) (0 ∷ []) (omega (arith, second))

module _ (one_byte : (before after : List ℕ) (one other : ℕ) → AreBytes (before ++ one ∷ after) → other < 2 ^ 8 → crc32 (before ++ one ∷ after) ≡ crc32 (before ++ other ∷ after) → one ≡ other) where
  -- a change of what contents say changes the check sum
  same_said : (identity place : ℕ) (before rest : List ℕ) (byte changed : ℕ) → AreBytes (before ++ byte ∷ rest) → changed < 2 ^ 8 → check_of identity place (before ++ byte ∷ rest) ≡ check_of identity place (before ++ changed ∷ rest) → byte ≡ changed
  same_said identity place before rest byte changed are less same =
      let own : List ℕ = big_bytes 8 identity in
      let at : List ℕ = big_bytes 8 place in
      let all : List ℕ = own ++ (at ++ before) in
      let joined : (b : ℕ) → all ++ b ∷ rest ≡ own ++ (at ++ (before ++ b ∷ rest)) =
      λ b. append_assoc own (at ++ before) (b ∷ rest) ∙ ap (λ (l : List ℕ). own ++ l) (append_assoc at before (b ∷ rest)) in
      let bytes : AreBytes (own ++ (at ++ (before ++ byte ∷ rest))) =
      All-append (λ (b : ℕ). b < 2 ^ 8) own (at ++ (before ++ byte ∷ rest)) (number_bytes 8 identity) (All-append (λ (b : ℕ). b < 2 ^ 8) at (before ++ byte ∷ rest) (number_bytes 8 place) are) in
      one_byte all rest byte changed (subst AreBytes (sym (joined byte)) bytes) less (ap crc32 (joined byte) ∙ same ∙ sym (ap crc32 (joined changed)))

  pub one_checked : (identity place : ℕ) (before after : List ℕ) (byte changed : ℕ) → AreBytes (before ++ byte ∷ after) → changed < 2 ^ 8 → IsChecked identity place (before ++ byte ∷ after) → IsChecked identity place (before ++ changed ∷ after) → byte ≡ changed
  one_checked identity place before after byte changed are less first second = elim (cases_lt (length before) 26) [
    | inl in_front ↦
        let rest : List ℕ = front_rest 26 before after in
        let x = taken 26 before after byte in_front in
        let y = taken 26 before after changed in_front in
        let behind : check_bytes identity place (said_of (before ++ byte ∷ after)) ≡ check_bytes identity place (said_of (before ++ changed ∷ after)) =
        sym first ∙ dropped 26 before after byte changed in_front ∙ second in
        let checks = same_check identity place (said_of (before ++ byte ∷ after)) (said_of (before ++ changed ∷ after)) behind in
        same_said identity place before rest byte changed (subst AreBytes x (bytes_in_front 26 (before ++ byte ∷ after) are)) less
        (sym (ap (check_of identity place) x) ∙ checks ∙ ap (check_of identity place) y)
    | inr past ↦
        let x = take-append-le 26 before (byte ∷ after) past in
        let y = take-append-le 26 before (changed ∷ after) past in
        let said : said_of (before ++ byte ∷ after) ≡ said_of (before ++ changed ∷ after) = x ∙ sym y in
        let behind : drop 26 (before ++ byte ∷ after) ≡ drop 26 (before ++ changed ∷ after) = first ∙ ap (check_bytes identity place) said ∙ sym second in
        same_middle before after byte changed
        (sym (take-append-drop 26 (before ++ byte ∷ after))
        ∙ ap (λ (l : List ℕ). l ++ drop 26 (before ++ byte ∷ after)) said
        ∙ ap (λ (l : List ℕ). take 26 (before ++ changed ∷ after) ++ l) behind
        ∙ take-append-drop 26 (before ++ changed ∷ after))
  ]
