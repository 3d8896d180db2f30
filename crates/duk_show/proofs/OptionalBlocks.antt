-- Optional blocks, from the front of a text.
use Rattle.std.proofs.Common.{◌≡◌, ℕ, zero, suc, ◌+◌, ◌-◌, ◌≤◌, List, [], ◌∷◌, ◌++◌, length, take, drop, refl, sym, ap, subst, ◌∙◌, length-append, arith}
use Rattle.std.specs.List.{All, concat}
use Rattle.std.proofs.lemmas.List.{append_assoc, take_at, drop_at, length-take-le, take-append-drop, take-take, drop-drop, drop-take}
use Rattle.std.proofs.lemmas.List.Elements.{All-head, All-tail}
use Rattle.hex.proofs.HexLemmas.{decode_of-ok, decode_of-same}
use Rattle.duk_block.specs.Hexadecimal.{IsHexadecimal}
use Rattle.duk_block.specs.Optional.{IsOptionalBlock, Leaves}
use Rattle.duk_show.specs.Block.{BeginsWithNoBlock}
use Rattle.duk_show.specs.inner.Block.{BeginsWithBlock, LeavesOne}

digits_width : (block : List ℕ) (is : IsOptionalBlock block) → length is.digits ≡ 2
digits_width block is = (decode_of-ok is.digits (length block ∷ []) is.length_is).2

pub least_length : (block : List ℕ) → IsOptionalBlock block → 4 ≤ length block
least_length block is =
    omega (arith, ap length is.laid_out, length-append (is.id ++ is.digits) is.content, length-append is.id is.digits, is.id_width, digits_width block is)

-- the third and fourth character are the length's digits
digits_at : (text rest : List ℕ) (one : LeavesOne text rest) → take 2 (drop 2 text) ≡ one.is_block.digits
digits_at text rest one =
    let is = one.is_block in
    ap (λ all. take 2 (drop 2 all)) (
    one.laid_out ∙ ap (λ block. block ++ rest) is.laid_out
    ∙ append_assoc (is.id ++ is.digits) is.content rest
    ∙ append_assoc is.id is.digits (is.content ++ rest)
    )
    ∙ ap (take 2) (drop_at is.id (is.digits ++ (is.content ++ rest)) 2 is.id_width)
    ∙ take_at is.digits (is.content ++ rest) 2 (digits_width one.block is)

length_at : (text rest : List ℕ) (one : LeavesOne text rest) → IsHexadecimal (take 2 (drop 2 text)) (length one.block ∷ [])
length_at text rest one =
    let P : List ℕ → Type 0 = λ digits. IsHexadecimal digits (length one.block ∷ []) in
    subst P (sym (digits_at text rest one)) one.is_block.length_is

head_same : (a b : ℕ) → (a ∷ []) ≡ (b ∷ []) → a ≡ b
head_same a b same = cc

LeavesOne-same : (text a b : List ℕ) → LeavesOne text a → LeavesOne text b → a ≡ b
LeavesOne-same text a b one other =
    let same : length one.block ≡ length other.block =
    head_same (length one.block) (length other.block) (decode_of-same (take 2 (drop 2 text)) (length one.block ∷ []) (length other.block ∷ []) (length_at text a one) (length_at text b other)) in
    sym (ap (drop (length one.block)) one.laid_out ∙ drop_at one.block a (length one.block) refl)
    ∙ ap (drop (length one.block)) other.laid_out
    ∙ drop_at other.block b (length one.block) (sym same)

-- an optional block by its length's digits
pub block_of : (text : List ℕ) (n : ℕ) → 4 ≤ n → n ≤ length text → IsHexadecimal (take 2 (drop 2 text)) (n ∷ []) → BeginsWithBlock text n
block_of text n four within read =
    let block : List ℕ = take n text in
    let width : length block ≡ n = length-take-le n text within in
    let P : ℕ → Type 0 = λ m. IsHexadecimal (take 2 (drop 2 text)) (m ∷ []) in
    let of_block : block ≡ take 2 block ++ (take 2 (drop 2 block) ++ drop 4 block) =
    sym (ap (λ rest. take 2 block ++ rest) (ap (λ rest. take 2 (drop 2 block) ++ rest) (sym (drop-drop 2 2 block)) ∙ take-append-drop 2 (drop 2 block)) ∙ take-append-drop 2 block) in
    let inner : take 2 (drop 2 block) ≡ take 2 (drop 2 text) =
    ap (take 2) (ap (λ m. drop 2 (take m text)) (omega arith) ∙ drop-take 2 (n - 2) text) ∙ take-take 2 (n - 2) (drop 2 text) (omega arith) in
    record {
      least = four;
      within = within;
      is_block = record {
        id = take 2 block;
        digits = take 2 (drop 2 text);
        content = drop 4 block;
        laid_out = of_block ∙ ap (λ digits. take 2 block ++ (digits ++ drop 4 block)) inner ∙ sym (append_assoc (take 2 block) (take 2 (drop 2 text)) (drop 4 block));
        id_width = length-take-le 2 block (omega arith);
        length_is = subst P (sym width) read;
      };
    }

-- the block that a text begins with, and what follows it
pub one_of : (text : List ℕ) (n : ℕ) → BeginsWithBlock text n → LeavesOne text (drop n text)
one_of text n begins = record { block = take n text; is_block = begins.is_block; laid_out = sym (take-append-drop n text) }

-- its digits write its length
pub size_at : (text : List ℕ) (n : ℕ) → BeginsWithBlock text n → IsHexadecimal (take 2 (drop 2 text)) (n ∷ [])
size_at text n begins =
    let P : ℕ → Type 0 = λ m. IsHexadecimal (take 2 (drop 2 text)) (m ∷ []) in
    subst P (length-take-le n text begins.within)
    (length_at text (drop n text) (record { block = take n text; is_block = begins.is_block; laid_out = sym (take-append-drop n text) }))

-- a text that begins with a block of no length begins with none
pub begins_with : (text block after : List ℕ) → IsOptionalBlock block → text ≡ block ++ after → BeginsWithBlock text (length block)
begins_with text block after is laid =
    let whole : length text ≡ length block + length after = ap length laid ∙ length-append block after in
    record {
      least = least_length block is;
      within = omega (arith, whole);
      is_block = subst IsOptionalBlock (sym (ap (take (length block)) laid ∙ take_at block after (length block) refl)) is;
    }

pub no_block : (text : List ℕ) → ((n : ℕ) → ¬ BeginsWithBlock text n) → BeginsWithNoBlock text
no_block text none block after is laid = none (length block) (begins_with text block after is laid)

uncons_of : (n : ℕ) (text rest : List ℕ) (blocks : List (List ℕ)) → text ≡ concat blocks ++ rest → length blocks ≡ suc n → All IsOptionalBlock blocks
    → (mid : List ℕ) × LeavesOne text mid × Leaves n mid rest
uncons_of n text rest [] laid count each = absurd (omega arith)
uncons_of n text rest (block ∷ blocks) laid count each = (
  concat blocks ++ rest,
  record { block = block; is_block = All-head IsOptionalBlock block blocks each; laid_out = laid ∙ append_assoc block (concat blocks) rest },
  record { optional_blocks = blocks; laid_out = refl; count_is = omega arith; each = All-tail IsOptionalBlock block blocks each },
)

uncons : (n : ℕ) (text rest : List ℕ) → Leaves (suc n) text rest → (mid : List ℕ) × LeavesOne text mid × Leaves n mid rest
uncons n text rest all = uncons_of n text rest all.optional_blocks all.laid_out all.count_is all.each

-- what is left after the first block has the others
pub leaves_rest : (n : ℕ) (text mid rest : List ℕ) → LeavesOne text mid → Leaves (suc n) text rest → Leaves n mid rest
leaves_rest n text mid rest one all =
    let parts = uncons n text rest all in
    let P : List ℕ → Type 0 = λ after. Leaves n after rest in
    subst P (LeavesOne-same text parts.0 mid parts.1 one) parts.2

-- where no block begins a text it has none
pub leaves_none : (n : ℕ) (text rest : List ℕ) → ((size : ℕ) → ¬ BeginsWithBlock text size) → ¬ Leaves (suc n) text rest
leaves_none n text rest none all =
    let one = (uncons n text rest all).1 in
    no_block text none one.block (uncons n text rest all).0 one.is_block one.laid_out

none_of : (text rest : List ℕ) (blocks : List (List ℕ)) → text ≡ concat blocks ++ rest → length blocks ≡ 0 → text ≡ rest
none_of text rest [] laid count = laid
none_of text rest (block ∷ blocks) laid count = absurd (omega arith)

leaves_same_of_none : (text rest : List ℕ) → Leaves 0 text rest → text ≡ rest
leaves_same_of_none text rest all = none_of text rest all.optional_blocks all.laid_out all.count_is

-- so many blocks leave one rest
pub leaves_same : (n : ℕ) (text a b : List ℕ) → Leaves n text a → Leaves n text b → a ≡ b
leaves_same zero text a b one other = sym (leaves_same_of_none text a one) ∙ leaves_same_of_none text b other
leaves_same (suc n) text a b one other =
    let parts = uncons n text a one in
    leaves_same n parts.0 a b parts.2 (leaves_rest n text parts.0 b parts.1 other)
