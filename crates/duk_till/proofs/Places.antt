-- Where the parts of a last purchase stand in its body.
use Rattle.std.proofs.Common.{◌≡◌, ◌≢◌, ◌<◌, ◌^◌, ℕ, List, [], ◌∷◌, ◌++◌, Some, append_assoc, ap, arith, drop, drop-drop, get_or, length, lit<, refl, replicate, sym, take, ◌∙◌}
use Rattle.std.proofs.lemmas.List.{drop_at, get_or-drop, take_at}
use Rattle.byteorder.specs.Endian.{big_bytes, big_number}
use Rattle.byteorder.specs.Numbers.{big_number-reads_back}
use Rattle.duk_frame.specs.declared.code.Code.{Code}
use Rattle.duk_frame.specs.declared.code.Code.TheVariants as code
use Rattle.duk_tree.specs.Serial.{Serial, IsSerial, serial_bytes, serial_of_bytes}
use Rattle.duk_till.specs.Image.{IsLastBody, amount_in, code_byte, decline_byte, state_byte}
use Rattle.duk_till.specs.Last.{AreLastFields, number_of}
use Rattle.duk_till.specs.declared.last.Last.{Last}
use Rattle.duk_till.specs.declared.last.Last.TheVariants.{Open, Approved, Declined, Undone}

-- ---- fields

pub is_serial : (last : Last) → AreLastFields last → IsSerial (number_of last)
is_serial (Open ksn amount) are = are.0
is_serial (Approved ksn amount) are = are.0
is_serial (Declined ksn why) are = are.0
is_serial (Undone ksn) are = are

amount_fits : (last : Last) → AreLastFields last → amount_in last < 2 ^ 32
amount_fits (Open ksn amount) are = are.1
amount_fits (Approved ksn amount) are = are.1
amount_fits (Declined ksn why) are = lit< tt
amount_fits (Undone ksn) are = lit< tt

-- ---- places

pub record LastPlaces (body : List ℕ) (last : Last) : Type 0 where
  pub state : get_or body 1 0 ≡ state_byte last
  pub number : take 10 (drop 2 body) ≡ serial_bytes (number_of last)
  pub amount : big_number 4 (take 4 (drop 12 body)) ≡ amount_in last
  pub code : get_or body 16 0 ≡ decline_byte last

pub last_places : (body : List ℕ) (last : Last) → ((serial : Serial) → length (serial_bytes serial) ≡ 10) → IsLastBody body last → LastPlaces body last
last_places body last ten is =
    let serial : List ℕ = serial_bytes (number_of last) in
    let amount : List ℕ = big_bytes 4 (amount_in last) in
    let code : ℕ = decline_byte last in
    let zeros : List ℕ = replicate 486 0 in
    let laid : body ≡ 0x81 ∷ state_byte last ∷ (serial ++ (amount ++ code ∷ zeros)) =
    is.laid_out ∙ ap (λ rest. 0x81 ∷ state_byte last ∷ rest)
    (append_assoc serial (amount ++ code ∷ []) zeros ∙ ap (λ rest. serial ++ rest) (append_assoc amount (code ∷ []) zeros)) in
    let after : drop 12 body ≡ amount ++ code ∷ zeros =
    sym (drop-drop 10 2 body) ∙ ap (λ b. drop 10 (drop 2 b)) laid ∙ drop_at serial (amount ++ code ∷ zeros) 10 (ten (number_of last)) in
    let last_byte : drop 16 body ≡ code ∷ zeros = sym (drop-drop 4 12 body) ∙ ap (drop 4) after in
    record {
      state = ap (λ b. get_or b 1 0) laid;
      number = ap (λ b. take 10 (drop 2 b)) laid ∙ take_at serial (amount ++ code ∷ zeros) 10 (ten (number_of last));
      amount = ap (λ b. big_number 4 (take 4 b)) after ∙ big_number-reads_back 4 (amount_in last) [] (amount_fits last is.fields);
      code = sym (get_or-drop 16 body 0 0) ∙ ap (λ b. get_or b 0 0) last_byte;
    }

-- ---- the states

pub is_open : (last : Last) (ksn : Serial) (amount : ℕ) → state_byte last ≡ 1 → ksn ≡ number_of last → amount ≡ amount_in last → Some (Open ksn amount) ≡ Some last
is_open (Open ksn amount) number sum state ksn_is amount_is = cc
is_open (Approved ksn amount) number sum state ksn_is amount_is = absurd (omega (arith, state))
is_open (Declined ksn why) number sum state ksn_is amount_is = absurd (omega (arith, state))
is_open (Undone ksn) number sum state ksn_is amount_is = absurd (omega (arith, state))

pub is_approved : (last : Last) (ksn : Serial) (amount : ℕ) → state_byte last ≡ 2 → ksn ≡ number_of last → amount ≡ amount_in last → Some (Approved ksn amount) ≡ Some last
is_approved (Open ksn amount) number sum state ksn_is amount_is = absurd (omega (arith, state))
is_approved (Approved ksn amount) number sum state ksn_is amount_is = cc
is_approved (Declined ksn why) number sum state ksn_is amount_is = absurd (omega (arith, state))
is_approved (Undone ksn) number sum state ksn_is amount_is = absurd (omega (arith, state))

pub is_declined : (last : Last) (ksn : Serial) (why : Code) (number : ℕ) → AreLastFields last → state_byte last ≡ 3 → ksn ≡ number_of last → decline_byte last ≡ number
    → ((other : Code) → other ≢ code.Approved → code_byte other ≡ number → Some why ≡ Some other) → Some (Declined ksn why) ≡ Some last
is_declined (Open ksn amount) number cause byte are state ksn_is code_is every = absurd (omega (arith, state))
is_declined (Approved ksn amount) number cause byte are state ksn_is code_is every = absurd (omega (arith, state))
is_declined (Declined ksn why) number cause byte are state ksn_is code_is every = let same = every why are.1 code_is in cc
is_declined (Undone ksn) number cause byte are state ksn_is code_is every = absurd (omega (arith, state))

pub is_undone : (last : Last) (ksn : Serial) → state_byte last ≡ 4 → ksn ≡ number_of last → Some (Undone ksn) ≡ Some last
is_undone (Open ksn amount) number state ksn_is = absurd (omega (arith, state))
is_undone (Approved ksn amount) number state ksn_is = absurd (omega (arith, state))
is_undone (Declined ksn why) number state ksn_is = absurd (omega (arith, state))
is_undone (Undone ksn) number state ksn_is = cc

-- ---- one reading

code_is : (one other : Code) → code_byte one ≡ code_byte other → one ≡ other
code_is code.Approved code.Approved same = refl
code_is code.NoCard code.NoCard same = refl
code_is code.WrongPin code.WrongPin same = refl
code_is code.OverLimit code.OverLimit same = refl
code_is code.Unreadable code.Unreadable same = refl
code_is one other same = absurd (omega (arith, same))

-- last purchases with one state, number, amount and code are one
same_by_parts : (one other : Last) → state_byte one ≡ state_byte other → number_of one ≡ number_of other → amount_in one ≡ amount_in other → decline_byte one ≡ decline_byte other → one ≡ other
same_by_parts (Open ksn amount) (Open number sum) state number_is amount_is code_is = cc
same_by_parts (Approved ksn amount) (Approved number sum) state number_is amount_is code_is = cc
same_by_parts (Declined ksn why) (Declined number cause) state number_is amount_is byte = let same : why ≡ cause = code_is why cause byte in cc
same_by_parts (Undone ksn) (Undone number) state number_is amount_is code_is = cc
same_by_parts one other state number_is amount_is code_is = absurd (omega (arith, state))

pub same_last :
    (body : List ℕ) (one other : Last) → ((serial : Serial) → length (serial_bytes serial) ≡ 10) → ((serial : Serial) → IsSerial serial → serial_of_bytes (serial_bytes serial) ≡ serial)
    → IsLastBody body one → IsLastBody body other → one ≡ other
same_last body one other ten found is_one is_other =
    let a = last_places body one ten is_one in
    let b = last_places body other ten is_other in
    let numbers : number_of one ≡ number_of other =
    sym (found (number_of one) (is_serial one is_one.fields)) ∙ ap serial_of_bytes (sym a.number ∙ b.number) ∙ found (number_of other) (is_serial other is_other.fields) in
    same_by_parts one other (sym a.state ∙ b.state) numbers (sym a.amount ∙ b.amount) (sym a.code ∙ b.code)
