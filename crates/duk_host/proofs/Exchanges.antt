-- Lists of the latest exchanges, and requests that are short enough to be kept.
use Rattle.std.proofs.Common.{◌≡◌, ◌≤◌, ◌-◌, ◌+◌, ℕ, suc, Bool, true, false, List, [], ◌∷◌, ◌++◌, Some, Contains, length, drop, refl, sym, ap, subst, ◌∙◌, arith, length-append}
use Rattle.std.specs.Str.{bytes_eq}
use Rattle.std.proofs.lemmas.List.{drop-append-le}
use Rattle.std.proofs.lemmas.List.Elements.{Contains-push}
use Rattle.std.proofs.lemmas.Slice.Eq.{bytes_eq-Decides}
use Rattle.byteorder.specs.Endian.{big_bytes}
use Rattle.byteorder.specs.Numbers.{length-bytes_high_first}
use Rattle.duk_frame.specs.Request.{request_text}
use Rattle.duk_tree.specs.Serial.{Serial, serial_bytes}
use Rattle.duk_host.specs.Recent.{Exchange, exchange, reply_given, with_exchange}
use Rattle.duk_host.specs.inner.Recent.{IsRequestOf}

some_value : {A : Type 0} (one other : A) → Some one ≡ Some other → one ≡ other
some_value one other is = cc

same_bytes : (one other : List ℕ) → bytes_eq one other ≡ true → one ≡ other
same_bytes one other is = (bytes_eq-Decides one other).0 is

-- a reply that is given again is that of an exchange on the list
module _ (bytes frame : List ℕ) where
  abbrev Given : List Exchange → Type 0
  Given recent = reply_given recent bytes ≡ Some frame → Contains recent (exchange bytes frame)

  by_first : (first : Exchange) (recent : List Exchange) → Given recent → (is : Bool) → bytes_eq first.request bytes ≡ is → Given (first ∷ recent)
  by_first first recent later true same given =
      let request : first.request ≡ bytes = same_bytes first.request bytes same in
      let reply : first.reply ≡ frame = some_value first.reply frame (rw same at given) in
      (0, omega arith, ap (λ request. exchange request first.reply) request ∙ ap (λ reply. exchange bytes reply) reply)
  by_first first recent later false same given =
      let rest = later (rw same at given) in (suc rest.0, omega (arith, rest.1), rest.2)

  pub given_before : (recent : List Exchange) → Given recent
  given_before [] = λ given. cc
  given_before (first ∷ recent) = by_first first recent (given_before recent) (bytes_eq first.request bytes) refl

-- the exchange that was put last is on the list
pub last_is_kept : (recent : List Exchange) (last : Exchange) → Contains (with_exchange recent last) last
last_is_kept recent last =
    let count = length (recent ++ last ∷ []) - 64 in
    let longer : length (recent ++ last ∷ []) ≡ length recent + 1 = length-append recent (last ∷ []) in
    let within : count ≤ length recent = omega (arith, longer) in
    subst (λ list. Contains list last) (sym (drop-append-le count recent (last ∷ []) within)) (Contains-push (drop count recent) last)

-- a request is short enough for a frame
pub short_request : ((serial : Serial) → length (serial_bytes serial) ≡ 10) → (bytes : List ℕ) (ksn : Serial) → IsRequestOf bytes ksn → length bytes ≤ 64
short_request ten bytes ksn is =
    let request = is.request in
    let fields = is.is_request.fields in
    let amount = big_bytes 4 request.amount in
    let following = request.pan ++ (amount ++ request.block) in
    let text = request_text request.ksn request.pan request.amount request.block in
    let body = text ++ request.mac in
    let whole : length bytes ≡ 2 + length body = ap length is.is_request.laid_out ∙ length-append (big_bytes 2 (length body)) body ∙ ap (λ n. n + length body) (length-bytes_high_first 2 (length body)) in
    omega (
      arith,
      whole,
      length-append text request.mac,
      length-append (serial_bytes request.ksn) (length request.pan ∷ following),
      ten request.ksn,
      length-append request.pan (amount ++ request.block),
      length-append amount request.block,
      length-bytes_high_first 4 request.amount,
      fields.pan_is.length.at_most,
      fields.block_is.eight,
      fields.mac_is.eight,
    )
