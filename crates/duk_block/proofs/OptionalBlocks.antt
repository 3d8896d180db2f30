-- Optional blocks, from the front of a text.
use Rattle.std.proofs.Common.{◌≡◌, ℕ, zero, suc, ◌+◌, ◌-◌, ◌≤◌, List, [], ◌∷◌, ◌++◌, length, take, drop, refl, sym, ap, subst, ◌∙◌, length-append, arith}
use Rattle.std.specs.List.{All, concat}
use Rattle.std.proofs.lemmas.List.{append_assoc, take_at, drop_at, length-take-le, take-append-drop, take-take, drop-drop, drop-take}
use Rattle.std.proofs.lemmas.List.Elements.{All-nil, All-cons, All-head, All-tail}
use Rattle.hex.proofs.HexLemmas.{decode_of-ok, decode_of-same}
use Rattle.duk_block.specs.Hexadecimal.{IsHexadecimal}
use Rattle.duk_block.specs.Optional.{IsOptionalBlock, Leaves}
use Rattle.duk_block.specs.inner.Optional.{LeavesOne}

digits_width : (block : List ℕ) (is : IsOptionalBlock block) → length is.digits ≡ 2
digits_width block is = (decode_of-ok is.digits (length block ∷ []) is.length_is).2

pub least_length : (block : List ℕ) → IsOptionalBlock block → 4 ≤ length block
least_length block is =
    omega (arith, ap length is.laid_out, length-append (is.id ++ is.digits) is.content, length-append is.id is.digits, is.id_width, digits_width block is)

-- the third and fourth character are the length's digits
pub digits_at : (text rest : List ℕ) (one : LeavesOne text rest) → take 2 (drop 2 text) ≡ one.is_block.digits
digits_at text rest one =
    let is = one.is_block in
    ap (λ all. take 2 (drop 2 all)) (
    one.laid_out ∙ ap (λ block. block ++ rest) is.laid_out
    ∙ append_assoc (is.id ++ is.digits) is.content rest
    ∙ append_assoc is.id is.digits (is.content ++ rest)
    )
    ∙ ap (take 2) (drop_at is.id (is.digits ++ (is.content ++ rest)) 2 is.id_width)
    ∙ take_at is.digits (is.content ++ rest) 2 (digits_width one.block is)

pub length_at : (text rest : List ℕ) (one : LeavesOne text rest) → IsHexadecimal (take 2 (drop 2 text)) (length one.block ∷ [])
length_at text rest one =
    let P : List ℕ → Type 0 = λ digits. IsHexadecimal digits (length one.block ∷ []) in
    subst P (sym (digits_at text rest one)) one.is_block.length_is

pub length-LeavesOne : (text rest : List ℕ) (one : LeavesOne text rest) → length text ≡ length one.block + length rest
length-LeavesOne text rest one = ap length one.laid_out ∙ length-append one.block rest

head_same : (a b : ℕ) → (a ∷ []) ≡ (b ∷ []) → a ≡ b
head_same a b same = cc

pub LeavesOne-same : (text a b : List ℕ) → LeavesOne text a → LeavesOne text b → a ≡ b
LeavesOne-same text a b one other =
    let same : length one.block ≡ length other.block =
    head_same (length one.block) (length other.block) (decode_of-same (take 2 (drop 2 text)) (length one.block ∷ []) (length other.block ∷ []) (length_at text a one) (length_at text b other)) in
    sym (ap (drop (length one.block)) one.laid_out ∙ drop_at one.block a (length one.block) refl)
    ∙ ap (drop (length one.block)) other.laid_out
    ∙ drop_at other.block b (length one.block) (sym same)

-- an optional block by its length's digits
pub LeavesOne-drop : (text : List ℕ) (n : ℕ) → 4 ≤ n → n ≤ length text → IsHexadecimal (take 2 (drop 2 text)) (n ∷ []) → LeavesOne text (drop n text)
LeavesOne-drop text n four within read =
    let block : List ℕ = take n text in
    let width : length block ≡ n = length-take-le n text within in
    let P : ℕ → Type 0 = λ m. IsHexadecimal (take 2 (drop 2 text)) (m ∷ []) in
    let pieces : text ≡ take 2 text ++ (take 2 (drop 2 text) ++ drop 4 text) =
    sym (ap (λ rest. take 2 text ++ rest) (ap (λ rest. take 2 (drop 2 text) ++ rest) (sym (drop-drop 2 2 text)) ∙ take-append-drop 2 (drop 2 text)) ∙ take-append-drop 2 text) in
    let of_block : block ≡ take 2 block ++ (take 2 (drop 2 block) ++ drop 4 block) =
    sym (ap (λ rest. take 2 block ++ rest) (ap (λ rest. take 2 (drop 2 block) ++ rest) (sym (drop-drop 2 2 block)) ∙ take-append-drop 2 (drop 2 block)) ∙ take-append-drop 2 block) in
    let inner : take 2 (drop 2 block) ≡ take 2 (drop 2 text) =
    ap (take 2) (ap (λ m. drop 2 (take m text)) (omega arith) ∙ drop-take 2 (n - 2) text) ∙ take-take 2 (n - 2) (drop 2 text) (omega arith) in
    record {
      block = block;
      is_block = record {
        id = take 2 block;
        digits = take 2 (drop 2 text);
        content = drop 4 block;
        laid_out = of_block ∙ ap (λ digits. take 2 block ++ (digits ++ drop 4 block)) inner ∙ sym (append_assoc (take 2 block) (take 2 (drop 2 text)) (drop 4 block));
        id_width = length-take-le 2 block (omega arith);
        length_is = subst P (sym width) read;
      };
      laid_out = sym (take-append-drop n text);
    }

pub Leaves-cons : (n : ℕ) (text mid rest : List ℕ) → LeavesOne text mid → Leaves n mid rest → Leaves (suc n) text rest
Leaves-cons n text mid rest one more = record {
  optional_blocks = one.block ∷ more.optional_blocks;
  laid_out = one.laid_out ∙ ap (λ after. one.block ++ after) more.laid_out ∙ sym (append_assoc one.block (concat more.optional_blocks) rest);
  count_is = ap suc more.count_is;
  each = All-cons IsOptionalBlock one.block more.optional_blocks one.is_block more.each;
}

uncons_of : (n : ℕ) (text rest : List ℕ) (blocks : List (List ℕ)) → text ≡ concat blocks ++ rest → length blocks ≡ suc n → All IsOptionalBlock blocks
    → (mid : List ℕ) × LeavesOne text mid × Leaves n mid rest
uncons_of n text rest [] laid count each = absurd (omega arith)
uncons_of n text rest (block ∷ blocks) laid count each = (
  concat blocks ++ rest,
  record { block = block; is_block = All-head IsOptionalBlock block blocks each; laid_out = laid ∙ append_assoc block (concat blocks) rest },
  record { optional_blocks = blocks; laid_out = refl; count_is = omega arith; each = All-tail IsOptionalBlock block blocks each },
)

pub Leaves-uncons : (n : ℕ) (text rest : List ℕ) → Leaves (suc n) text rest → (mid : List ℕ) × LeavesOne text mid × Leaves n mid rest
Leaves-uncons n text rest all = uncons_of n text rest all.optional_blocks all.laid_out all.count_is all.each

pub Leaves-rest : (n : ℕ) (text mid rest : List ℕ) → LeavesOne text mid → Leaves (suc n) text rest → Leaves n mid rest
Leaves-rest n text mid rest one all =
    let parts = Leaves-uncons n text rest all in
    let P : List ℕ → Type 0 = λ after. Leaves n after rest in
    subst P (LeavesOne-same text parts.0 mid parts.1 one) parts.2

none_of : (text rest : List ℕ) (blocks : List (List ℕ)) → text ≡ concat blocks ++ rest → length blocks ≡ 0 → text ≡ rest
none_of text rest [] laid count = laid
none_of text rest (block ∷ blocks) laid count = absurd (omega arith)

pub Leaves-none : (text rest : List ℕ) → Leaves 0 text rest → text ≡ rest
Leaves-none text rest all = none_of text rest all.optional_blocks all.laid_out all.count_is

pub Leaves-nil : (text : List ℕ) → Leaves 0 text text
Leaves-nil text = record { optional_blocks = []; laid_out = refl; count_is = refl; each = All-nil IsOptionalBlock }

pub Leaves-same : (n : ℕ) (text a b : List ℕ) → Leaves n text a → Leaves n text b → a ≡ b
Leaves-same zero text a b one other = sym (Leaves-none text a one) ∙ Leaves-none text b other
Leaves-same (suc n) text a b one other =
    let parts = Leaves-uncons n text a one in
    Leaves-same n parts.0 a b parts.2 (Leaves-rest n text parts.0 b parts.1 other)
