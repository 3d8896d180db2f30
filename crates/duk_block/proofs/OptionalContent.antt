-- The search for the first optional block with an id.
use Rattle.std.proofs.Common.{◌≡◌, ℕ, suc, ◌-◌, true, false, Option, None, Some, is_some, MatchOption, Bor, List, [], ◌∷◌, ◌++◌, length, take, drop, refl, sym, ap, subst, ◌∙◌, append-nil, arith}
use Rattle.std.specs.List.{All, concat}
use Rattle.std.proofs.lemmas.List.{append_assoc, append_cancel_right, take_at}
use Rattle.std.proofs.lemmas.Bool.{false≢true}
use Rattle.std.proofs.lemmas.List.Elements.{All-nil, All-cons, All-head, All-tail, All-append}
use Rattle.duk_block.specs.Optional.{HasOtherId, IsFirstContent, IsOptionalBlock, Leaves}
use Rattle.duk_block.specs.inner.Optional.{LeavesOne}
use Rattle.duk_block.proofs.OptionalBlocks.{LeavesOne-same, length-LeavesOne}

-- the block in front of what follows it
pub block_in_front : (text rest : List ℕ) (one : LeavesOne text rest) → take (length text - length rest) text ≡ one.block
block_in_front text rest one =
    ap (take (length text - length rest)) one.laid_out
    ∙ take_at one.block rest (length text - length rest) (omega (arith, length-LeavesOne text rest one))

-- how far the search has come: the blocks before have other ids, and those that are left stand at the front of the text
pub record Passed (blocks : List (List ℕ)) (id text rest : List ℕ) (left : ℕ) : Type 0 where
  pub before : List (List ℕ)
  pub after : List (List ℕ)
  pub split : blocks ≡ before ++ after
  pub others : All (HasOtherId id) before
  pub laid_out : text ≡ concat after ++ rest
  pub count_is : length after ≡ left
  pub each : All IsOptionalBlock after

pub passed_none : (count : ℕ) (id text rest : List ℕ) (leaves : Leaves count text rest) → Passed leaves.optional_blocks id text rest count
passed_none count id text rest leaves = record {
  before = [];
  after = leaves.optional_blocks;
  split = refl;
  others = All-nil (HasOtherId id);
  laid_out = leaves.laid_out;
  count_is = leaves.count_is;
  each = leaves.each;
}

-- the search at a block
pub record AtBlock (blocks : List (List ℕ)) (id text rest : List ℕ) (left : ℕ) : Type 0 where
  pub before : List (List ℕ)
  pub after : List (List ℕ)
  pub one : LeavesOne text (concat after ++ rest)
  pub split : blocks ≡ before ++ one.block ∷ after
  pub others : All (HasOtherId id) before
  pub count_is : length after ≡ left
  pub each : All IsOptionalBlock after

at_of : (blocks before after : List (List ℕ)) (id text rest : List ℕ) (left : ℕ) → blocks ≡ before ++ after → All (HasOtherId id) before
    → text ≡ concat after ++ rest → length after ≡ suc left → All IsOptionalBlock after → AtBlock blocks id text rest left
at_of blocks before [] id text rest left split others laid count each = absurd (omega arith)
at_of blocks before (block ∷ after) id text rest left split others laid count each = record {
  before = before;
  after = after;
  one = record { block = block; is_block = All-head IsOptionalBlock block after each; laid_out = laid ∙ append_assoc block (concat after) rest };
  split = split;
  others = others;
  count_is = omega arith;
  each = All-tail IsOptionalBlock block after each;
}

pub at_block : (blocks : List (List ℕ)) (id text rest : List ℕ) (left : ℕ) → Passed blocks id text rest (suc left) → AtBlock blocks id text rest left
at_block blocks id text rest left passed = at_of blocks passed.before passed.after id text rest left passed.split passed.others passed.laid_out passed.count_is passed.each

-- a text begins with one block
pub same_block : (text a b : List ℕ) (one : LeavesOne text a) (other : LeavesOne text b) → one.block ≡ other.block
same_block text a b one other =
    append_cancel_right one.block other.block a
    (sym one.laid_out ∙ other.laid_out ∙ ap (λ rest. other.block ++ rest) (sym (LeavesOne-same text a b one other)))

split_at : (blocks : List (List ℕ)) (id text rest : List ℕ) (left : ℕ) (at : AtBlock blocks id text rest left) (next : List ℕ) (one : LeavesOne text next)
    → blocks ≡ at.before ++ one.block ∷ at.after
split_at blocks id text rest left at next one =
    at.split ∙ ap (λ block. at.before ++ block ∷ at.after) (same_block text (concat at.after ++ rest) next at.one one)

pub found_at : (blocks : List (List ℕ)) (id text rest : List ℕ) (left : ℕ) (at : AtBlock blocks id text rest left) (next : List ℕ) (one : LeavesOne text next)
    (content : List ℕ) → take 2 one.block ≡ id → content ≡ drop 4 one.block → IsFirstContent blocks id content
found_at blocks id text rest left at next one content is same = record {
  before = at.before;
  block = one.block;
  after = at.after;
  laid_out = split_at blocks id text rest left at next one;
  others = at.others;
  id_is = is;
  content_is = same;
}

-- what is found in the block in front
pub found_content : (blocks : List (List ℕ)) (id text rest : List ℕ) (left : ℕ) (at : AtBlock blocks id text rest left) (next : List ℕ) (one : LeavesOne text next)
    (front : List ℕ) (answer : Option (Bor (List ℕ))) → front ≡ one.block → is_some answer ≡ true
    → MatchOption answer (HasOtherId id front) (λ content. (take 2 front ≡ id) × (content.now ≡ drop 4 front))
    → MatchOption answer (All (HasOtherId id) blocks) (λ content. IsFirstContent blocks id content.now)
found_content blocks id text rest left at next one front None is some found = absurd (false≢true some)
found_content blocks id text rest left at next one front (Some content) is some found =
    found_at blocks id text rest left at next one content.now (ap (take 2) (sym is) ∙ found.0) (found.1 ∙ ap (drop 4) is)

pub other_content : (id front block : List ℕ) (answer : Option (Bor (List ℕ))) → front ≡ block → is_some answer ≡ false
    → MatchOption answer (HasOtherId id front) (λ content. (take 2 front ≡ id) × (content.now ≡ drop 4 front))
    → HasOtherId id block
other_content id front block None is none found = λ same. found (ap (take 2) is ∙ same)
other_content id front block (Some content) is none found = absurd (false≢true (sym none))

pub passed_at : (blocks : List (List ℕ)) (id text rest : List ℕ) (left : ℕ) (at : AtBlock blocks id text rest left) (next : List ℕ) (one : LeavesOne text next)
    → HasOtherId id one.block → Passed blocks id next rest left
passed_at blocks id text rest left at next one other = record {
  before = at.before ++ one.block ∷ [];
  after = at.after;
  split = split_at blocks id text rest left at next one ∙ sym (append_assoc at.before (one.block ∷ []) at.after);
  others = All-append (HasOtherId id) at.before (one.block ∷ []) at.others (All-cons (HasOtherId id) one.block [] other (All-nil (HasOtherId id)));
  laid_out = LeavesOne-same text next (concat at.after ++ rest) one at.one;
  count_is = at.count_is;
  each = at.each;
}

none_of : (blocks before after : List (List ℕ)) (id : List ℕ) → blocks ≡ before ++ after → All (HasOtherId id) before → length after ≡ 0 → All (HasOtherId id) blocks
none_of blocks before [] id split others count =
    let P : List (List ℕ) → Type 0 = All (HasOtherId id) in
    subst P (sym (split ∙ append-nil before)) others
none_of blocks before (block ∷ after) id split others count = absurd (omega arith)

pub passed_all : (blocks : List (List ℕ)) (id text rest : List ℕ) → Passed blocks id text rest 0 → All (HasOtherId id) blocks
passed_all blocks id text rest passed = none_of blocks passed.before passed.after id passed.split passed.others passed.count_is
