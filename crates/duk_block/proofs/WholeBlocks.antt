-- A text that is optional blocks and nothing else.
use Rattle.std.proofs.Common.{◌≡◌, ℕ, zero, suc, ◌+◌, ◌%◌, ◌<◌, ◌==◌, Bool, true, false, Option, None, Some, MatchOption, List, [], ◌∷◌, length, refl, sym, ap, subst, ◌∙◌, length-append, eqb-true, arith}
use Rattle.std.specs.List.{All, concat}
use Rattle.std.proofs.lemmas.Bool.{false≢true}
use Rattle.std.proofs.lemmas.List.Elements.{All-head, All-nil, All-tail}
use Rattle.duk_block.specs.HeaderText.{IsPrintable}
use Rattle.duk_block.specs.declared.header.Header.{Header}
use Rattle.duk_block.specs.KeyBlock.{IsWrittenKeyBlock, IsWrittenKeyBlockWith}
use Rattle.duk_block.specs.Optional.{AreOptionalBlocks, IsOptionalBlock, Leaves}
use Rattle.duk_block.specs.inner.Optional.{LeavesOne}
use Rattle.duk_block.proofs.OptionalContent.{same_block}
use Rattle.duk_block.proofs.OptionalBlocks.{LeavesOne-same, Leaves-cons, Leaves-nil, Leaves-none, Leaves-rest, Leaves-uncons, least_length, length-LeavesOne}

-- so many more blocks follow those that were counted
pub record FollowBy (text : List ℕ) (count total : ℕ) : Type 0 where
  pub more : ℕ
  pub total_is : total ≡ count + more
  pub leaves : Leaves more text []

follow_of : (text next : List ℕ) (count total more : ℕ) → LeavesOne text next → total ≡ count + more → Leaves more text [] → FollowBy next (count + 1) total
follow_of text next count total zero one is leaves =
    absurd (omega (arith, ap length (Leaves-none text [] leaves), length-LeavesOne text next one, least_length one.block one.is_block))
follow_of text next count total (suc more) one is leaves = record { more = more; total_is = omega arith; leaves = Leaves-rest more text next [] one leaves }

pub follow_next : (text next : List ℕ) (count total : ℕ) → LeavesOne text next → FollowBy text count total → FollowBy next (count + 1) total
follow_next text next count total one follow = follow_of text next count total follow.more one follow.total_is follow.leaves

pub onward_next : (whole text next : List ℕ) (count more : ℕ) → LeavesOne text next → ((n : ℕ) → Leaves n text [] → Leaves (count + n) whole []) → Leaves more next []
    → Leaves (count + 1 + more) whole []
onward_next whole text next count more one onward leaves =
    let P : ℕ → Type 0 = λ n. Leaves n whole [] in
    let shift : count + suc more ≡ count + 1 + more = omega arith in
    subst P shift (onward (suc more) (Leaves-cons more text next [] one leaves))

nothing : (text : List ℕ) → length text ≡ 0 → text ≡ []
nothing [] none = refl
nothing (first ∷ text) none = absurd (omega arith)

pub at_end : (whole text : List ℕ) (count : ℕ) → length text ≡ 0 → ((n : ℕ) → Leaves n text [] → Leaves (count + n) whole []) → Leaves count whole []
at_end whole text count none onward =
    let empty : text ≡ [] = nothing text none in
    let P : ℕ → Type 0 = λ n. Leaves n whole [] in
    let Q : List ℕ → Type 0 = λ rest. Leaves 0 rest [] in
    let shift : count + 0 ≡ count = omega arith in
    subst P shift (onward 0 (subst Q (sym empty) (Leaves-nil [])))

-- where no block follows, and yet something, the text is not whole blocks
stuck_of : (text : List ℕ) (more : ℕ) → (length text ≡ 0 → ⊥) → ((next : List ℕ) → LeavesOne text next → ⊥) → Leaves more text [] → ⊥
stuck_of text zero some none leaves = some (ap length (Leaves-none text [] leaves))
stuck_of text (suc more) some none leaves =
    let parts = Leaves-uncons more text [] leaves in
    none parts.0 parts.1

pub stuck : (text : List ℕ) (count total : ℕ) → (length text ≡ 0 → ⊥) → ((next : List ℕ) → LeavesOne text next → ⊥) → FollowBy text count total → ⊥
stuck text count total some none follow = stuck_of text follow.more some none follow.leaves

-- blocks that can be printed, and fill whole blocks of the cipher
pub written_of : (text : List ℕ) (answer : Option ℕ) → length text % 8 ≡ 0 → All IsPrintable text
    → MatchOption answer ((count : ℕ) → count < 100 → Leaves count text [] → ⊥) (λ count. (count < 100) × Leaves count text [])
    → MatchOption answer (¬ AreOptionalBlocks text) (λ count. AreOptionalBlocks text × (count < 100) × Leaves count text [])
written_of text None whole printable none = λ are. none are.count are.count_has_two_digits are.leaves
written_of text (Some count) whole printable found =
    (record { count = count; count_has_two_digits = found.0; leaves = found.1; printable = printable; whole = whole }, found.0, found.1)

-- no text at all is no optional blocks
pub none_are : AreOptionalBlocks []
none_are = record { count = 0; count_has_two_digits = omega arith; leaves = Leaves-nil []; printable = All-nil IsPrintable; whole = refl }

-- a test of a length for nothing
pub nothing_tested : (n : ℕ) (b : Bool) → b ≡ (n == 0) → b ≡ true → n ≡ 0
nothing_tested n b is tested = eqb-true n 0 (sym is ∙ tested)

pub something_tested : (n : ℕ) (b : Bool) → b ≡ (n == 0) → b ≡ false → n ≡ 0 → ⊥
something_tested n b is tested none = false≢true (sym tested ∙ is ∙ ap (λ m. m == 0) none)

-- blocks that are no text are none
pub no_blocks : (blocks : List (List ℕ)) → All IsOptionalBlock blocks → concat blocks ≡ [] → blocks ≡ []
no_blocks [] each none = refl
no_blocks (block ∷ blocks) each none =
    absurd (omega (arith, ap length none, length-append block (concat blocks), least_length block (All-head IsOptionalBlock block blocks each)))

-- blocks one after another are told apart in one way
pub blocks_same : (blocks others : List (List ℕ)) → All IsOptionalBlock blocks → All IsOptionalBlock others → concat blocks ≡ concat others → blocks ≡ others
blocks_same [] others each every same = sym (no_blocks others every (sym same))
blocks_same (block ∷ blocks) [] each every same = no_blocks (block ∷ blocks) each same
blocks_same (block ∷ blocks) (other ∷ others) each every same =
    let text : List ℕ = concat (block ∷ blocks) in
    let one : LeavesOne text (concat blocks) = record { block = block; is_block = All-head IsOptionalBlock block blocks each; laid_out = refl } in
    let two : LeavesOne text (concat others) = record { block = other; is_block = All-head IsOptionalBlock other others every; laid_out = same } in
    let rest : blocks ≡ others =
    blocks_same blocks others (All-tail IsOptionalBlock block blocks each) (All-tail IsOptionalBlock other others every) (LeavesOne-same text (concat blocks) (concat others) one two) in
    ap (λ first. first ∷ blocks) (same_block text (concat blocks) (concat others) one two) ∙ ap (λ after. other ∷ after) rest

-- what is written with no optional block
pub written_alone : (text protection_key : List ℕ) (header : Header) (key padding : List ℕ) → IsWrittenKeyBlockWith text protection_key header [] key padding
    → IsWrittenKeyBlock text protection_key header key padding
written_alone text protection_key header key padding written = record {
  block = written.block;
  no_optional = no_blocks written.block.optional_blocks written.block.each_optional written.optional_is;
  reserved_zeros = written.reserved_zeros;
  padding_is = written.padding_is;
  upper_case = written.upper_case;
}
