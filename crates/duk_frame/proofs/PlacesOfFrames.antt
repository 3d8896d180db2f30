-- Where the fields of a frame stand.
use Rattle.std.proofs.Common.{◌≡◌, ◌≤◌, ℕ, ◌+◌, ◌-◌, List, ◌∷◌, ◌++◌, length, take, drop, get_or, refl, sym, ap, ◌∙◌, arith, length-append, drop-drop}
use Rattle.std.proofs.lemmas.List.{take-append-le, take_all, drop-append-le, drop_all, get_or-drop}
use Rattle.duk_frame.specs.Frame.{framed, mac_text_of}
use Rattle.duk_frame.specs.inner.Frame.{HasKind}

-- ---- lists

pub take-front : (n : ℕ) (front rest : List ℕ) → length front ≡ n → take n (front ++ rest) ≡ front
take-front n front rest size = take-append-le n front rest (omega arith) ∙ take_all n front (omega arith)

pub drop-front : (n : ℕ) (front rest : List ℕ) → length front ≡ n → drop n (front ++ rest) ≡ rest
drop-front n front rest size =
    drop-append-le n front rest (omega arith) ∙ ap (λ xs. xs ++ rest) (drop_all n front (omega arith))

-- ---- frames

-- what stands between the length and the MAC
pub mac_text_framed : (text mac : List ℕ) → length mac ≡ 8 → mac_text_of (framed (text ++ mac)) ≡ text
mac_text_framed text mac eight =
    let whole : length (text ++ mac) ≡ length text + length mac = length-append text mac in
    let size : length (framed (text ++ mac)) - 10 ≡ length text = omega (arith, whole, eight) in
    ap (λ n. take n (text ++ mac)) size ∙ take-front (length text) text mac refl

-- a frame of this kind with this key serial number, and this after it
pub record Parts (bytes : List ℕ) (kind : ℕ) (serial rest : List ℕ) : Type 0 where
  pub size : length bytes ≡ 14 + length rest
  pub kind_is : get_or bytes 3 0 ≡ kind
  pub serial_is : take 10 (drop 4 bytes) ≡ serial
  pub rest_is : drop 14 bytes ≡ rest

-- the parts of a frame whose first four bytes are these
pub parts_of : (high low version kind : ℕ) (serial rest : List ℕ) → length serial ≡ 10
    → Parts (high ∷ low ∷ version ∷ kind ∷ (serial ++ rest)) kind serial rest
parts_of high low version kind serial rest ten =
    let whole : length (serial ++ rest) ≡ length serial + length rest = length-append serial rest in
    record {
      size = omega (arith, whole, ten);
      kind_is = refl;
      serial_is = take-front 10 serial rest ten;
      rest_is = drop-front 10 serial rest ten;
    }

-- what stands after the key serial number, where it begins with a byte
pub get_or-next : (bytes : List ℕ) (next : ℕ) (rest : List ℕ) → drop 14 bytes ≡ next ∷ rest → get_or bytes 14 0 ≡ next
get_or-next bytes next rest is = sym (get_or-drop 14 bytes 0 0) ∙ ap (λ xs. get_or xs 0 0) is

-- what stands after that byte
pub drop-next : (bytes : List ℕ) (next : ℕ) (rest : List ℕ) → drop 14 bytes ≡ next ∷ rest → drop 15 bytes ≡ rest
drop-next bytes next rest is = sym (drop-drop 1 14 bytes) ∙ ap (drop 1) is

-- such a frame has its MAC's text, and room for a length and a MAC
pub text_of_frame : (bytes text mac : List ℕ) → length mac ≡ 8 → bytes ≡ framed (text ++ mac) → (10 ≤ length bytes) × (mac_text_of bytes ≡ text)
text_of_frame bytes text mac eight laid =
    (omega (arith, ap length laid, length-append text mac, eight), ap mac_text_of laid ∙ mac_text_framed text mac eight)

-- frames of one text with one MAC each are the same where the MACs are
pub same_mac : (text mac other : List ℕ) → framed (text ++ mac) ≡ framed (text ++ other) → mac ≡ other
same_mac text mac other same =
    sym (drop-front (length text) text mac refl)
    ∙ ap (λ frame. drop (length text) (drop 2 frame)) same
    ∙ drop-front (length text) text other refl

-- ---- heads

-- a frame of at most 64 bytes has the kind that its contents says
pub kind_of_frame : (bytes rest : List ℕ) (kind : ℕ) → bytes ≡ framed (1 ∷ kind ∷ rest) → length bytes ≤ 64
    → HasKind bytes kind
kind_of_frame bytes rest kind laid short = record {
  short = short;
  laid_out = laid ∙ ap (λ rest. framed (1 ∷ kind ∷ rest)) (sym (ap (drop 4) laid));
}
