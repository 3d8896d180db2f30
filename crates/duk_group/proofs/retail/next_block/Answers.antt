use Rattle.std.proofs.Common.{◌≡◌, ◌-◌, ◌*◌, ◌^◌, ◌<◌, ◌∷◌, ◌++◌, ℕ, List, length, take, drop, replicate, sym, ap, subst, ◌∙◌, length-drop, arith}
use Rattle.std.specs.List.{All}
use Rattle.std.proofs.lemmas.List.{get_or_default}
use Rattle.duk_des.specs.Block.{IsBlock}
use Rattle.duk_tdes.specs.Blocks.{blocks_of}
use Rattle.duk_mac.specs.Retail.{zero_filled}
use Rattle.duk_group.proofs.NextBlocks.{next_block, first_part, next_block_fits}
use Rattle.duk_group.proofs.retail.next_block.Goals as goal

pub returns-then-done-message : goal.returns-then-done-message
returns-then-done-message c =
    let message = c.args.message.now in
    let done = 8 * c.args.count in
    let rest : List ℕ = drop done message in
    let some : 0 < length rest = omega (arith, length-drop done message) in
    let fit : All (λ byte. byte < 2 ^ 8) message = λ k d under. let same = get_or_default message k d 0 under in omega (arith, c.type_inv.message k) in
    let block : c.filled.result ≡ take 8 rest ++ replicate (8 - length (take 8 rest)) 0 =
    c.filled.ensures ∙ ap (λ (part : List ℕ). part ++ replicate (8 - length part) 0) (first_part message done c.min.result c.min.ensures) in
    let P : List ℕ → Type 0 = IsBlock in
    record {
      goes = λ is. next_block rest some ∙ ap (λ block. block ∷ blocks_of (zero_filled (drop 8 rest))) (sym block);
      is_block = λ is. subst P (sym block) (next_block_fits message done fit);
      stays = λ is. cc;
    }

pub returns-else-done-message : goal.returns-else-done-message
returns-else-done-message c = record {
  goes = λ is. cc;
  is_block = λ is. cc;
  stays = λ is. c.if-done-message.false;
}
