-- Where records of one length stand.
use Rattle.std.proofs.Common.{◌≡◌, ℕ, ◌+◌, ◌-◌, ◌*◌, ◌/◌, ◌<◌, ◌≤◌, List, length, take, drop, sym, ◌∙◌, ap, subst, arith}
use Rattle.std.proofs.Math.Nat.{div-mul-le_self, mul-add, mul_comm}
use Rattle.std.proofs.lemmas.List.{drop-drop, drop-take, take-take}
use Rattle.std.proofs.lemmas.Nat.{column_fits, div-mul-add, le-div, mul-le}
use Rattle.duk_store.specs.Disk.{range_of}
use Rattle.duk_store.specs.Records.{record_at}

pub later : (long place more : ℕ) → long * (place + more) ≡ long * place + long * more
later long place more = mul-add long place more

pub next : (long place : ℕ) → long * (place + 1) ≡ long * place + long
next long place = mul-add long place 1 ∙ omega arith

-- a record ends where a later one begins, at the latest
pub ends : (long one other : ℕ) → one < other → long * one + long ≤ long * other
ends long one other less = column_fits long one long other less (omega arith)

pub no_later : (long one other : ℕ) → one ≤ other → long * one ≤ long * other
no_later long one other less = mul-le long one long other (omega arith) less

-- a record of a piece is one of the whole
pub record_in_piece : (long place index : ℕ) (piece bytes : List ℕ) → piece ≡ range_of (long * place) (length piece) bytes → long * index + long ≤ length piece
    → record_at long (place + index) bytes ≡ record_at long index piece
record_in_piece long place index piece bytes stands inside =
    let n = length piece in
    let from : ℕ = long * index in
    let start : ℕ = long * place in
    let rest = n - from in
    let split : from + rest ≡ n = omega (arith, inside) in
    let there : start + from ≡ long * (place + index) = sym (mul-add long place index) in
    sym (
    ap (λ (l : List ℕ). take long (drop from l)) stands
    ∙ ap (λ (k : ℕ). take long (drop from (take k (drop start bytes)))) (sym split)
    ∙ ap (take long) (drop-take from rest (drop start bytes))
    ∙ take-take long rest (drop from (drop start bytes)) (omega (arith, inside))
    ∙ ap (take long) (drop-drop from start bytes)
    ∙ ap (λ (k : ℕ). take long (drop k bytes)) there
    )

-- the bytes of a record in a piece
pub record_slice : (long index : ℕ) (piece : List ℕ) → record_at long index piece ≡ take (long * index + long - long * index) (drop (long * index) piece)
record_slice long index piece =
    let from : ℕ = long * index in
    let width : long ≡ from + long - from = omega arith in ap (λ (n : ℕ). take n (drop from piece)) width

-- so many records are inside a size
pub inside_size : (long count size : ℕ) → count ≤ size / long → long * count ≤ size
inside_size long count size within =
    let less = no_later long count (size / long) within in
    let most = div-mul-le_self size long in
    let turned : size / long * long ≡ long * (size / long) = mul_comm (size / long) long in
    let most' : long * (size / long) ≤ size = subst (λ (n : ℕ). n ≤ size) turned most in
    let top : ℕ = long * (size / long) in
    let wanted : ℕ = long * count in
    omega (arith, less, most')

pub counted_inside : (long count size : ℕ) → 2 ≤ long → long * count ≤ size → count ≤ size / long
counted_inside long count size some inside = le-div count size long (omega (arith, some)) (subst (λ (n : ℕ). n ≤ size) (mul_comm long count) inside)

-- how many records a size has, as it is computed
pub records_in : (long said size given records : ℕ) → 2 ≤ long → said ≡ long → given ≡ size → size ≡ long * records → given / said ≡ records
records_in long said size given records some said_is given_is size_is =
    let turned : long * records ≡ records * long + 0 = mul_comm long records ∙ omega arith in
    ap (λ (n : ℕ). given / n) said_is ∙ ap (λ (n : ℕ). n / long) (given_is ∙ size_is ∙ turned) ∙ div-mul-add records long 0 (omega (arith, some))
