-- Optional blocks that are passed one after another.
use Rattle.std.proofs.Common.{◌≡◌, ◌+◌, ◌∷◌, ◌++◌, [], ℕ, List, length, take, drop, sym, ap, ◌∙◌, length-append, length-drop, append_assoc, arith}
use Rattle.std.specs.List.{concat, flat_map}
use Rattle.std.proofs.lemmas.Grind.{flat_map-append}
use Rattle.std.proofs.lemmas.List.{append-nil, drop-drop, length-take-le, take-append-drop}
use Rattle.std.proofs.lemmas.List.Elements.{All-push}
use Rattle.std.proofs.lemmas.List.Folds.{concat-append}
use Rattle.duk_block.specs.Optional.{IsOptionalBlock}
use Rattle.duk_show.specs.Block.{optional_line}
use Rattle.duk_show.specs.inner.Block.{ArePassed, BeginsWithBlock}

-- one more block at the end
concat_push : (blocks : List (List ℕ)) (block : List ℕ) → concat (blocks ++ block ∷ []) ≡ concat blocks ++ block
concat_push blocks block = concat-append blocks (block ∷ []) ∙ ap (λ (last : List ℕ). concat blocks ++ last) (append-nil block)

lines_push : (blocks : List (List ℕ)) (block : List ℕ) → flat_map optional_line (blocks ++ block ∷ []) ≡ flat_map optional_line blocks ++ optional_line block
lines_push blocks block =
    flat_map-append optional_line blocks (block ∷ []) ∙ ap (λ (last : List ℕ). flat_map optional_line blocks ++ last) (append-nil (optional_line block))

-- a block of this length at the place is passed
pub passed_more : (text : List ℕ) (blocks : List (List ℕ)) (place size : ℕ) (before now after : List ℕ)
    → ArePassed text blocks place before now → BeginsWithBlock (drop place text) size → after ≡ now ++ optional_line (take size (drop place text))
    → ArePassed text (blocks ++ take size (drop place text) ∷ []) (place + size) before after
passed_more text blocks place size before now after passed begins line =
    let block : List ℕ = take size (drop place text) in
    let width : length block ≡ size = length-take-le size (drop place text) begins.within in
    let more : length (concat (blocks ++ block ∷ [])) ≡ length (concat blocks) + length block =
    ap length (concat_push blocks block) ∙ length-append (concat blocks) block in
    record {
      each = All-push IsOptionalBlock blocks block passed.each begins.is_block;
      laid_out = passed.laid_out
          ∙ ap (λ (rest : List ℕ). concat blocks ++ rest) (sym (take-append-drop size (drop place text)))
          ∙ sym (append_assoc (concat blocks) block (drop size (drop place text)))
          ∙ ap (λ (front : List ℕ). front ++ drop size (drop place text)) (sym (concat_push blocks block))
          ∙ ap (λ (rest : List ℕ). concat (blocks ++ block ∷ []) ++ rest) (drop-drop size place text);
      place_is = omega (arith, passed.place_is, more, width);
      within = omega (arith, passed.within, begins.within, length-drop place text);
      lines = line
          ∙ ap (λ (front : List ℕ). front ++ optional_line block) passed.lines
          ∙ append_assoc before (flat_map optional_line blocks) (optional_line block)
          ∙ ap (λ (lines : List ℕ). before ++ lines) (sym (lines_push blocks block));
    }
