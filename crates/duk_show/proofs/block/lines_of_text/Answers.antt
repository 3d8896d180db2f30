use Rattle.std.proofs.Common.{◌≡◌, ◌++◌, ℕ, List, drop, flat_map, take, refl, ap, sym, subst, ◌∙◌}
use Rattle.duk_block.specs.Faults.{HasCount}
use Rattle.duk_show.specs.Block.{optional_line, sealed_lines}
use Rattle.duk_show.specs.inner.Block.{front_lines}
use Rattle.duk_show.proofs.block.lines_of_text.Goals as goal

pub returns-in-Ok-clause-lines : goal.returns-in-Ok-clause-lines
returns-in-Ok-clause-lines c =
    let text : List ℕ = c.args.text.now in
    let pushed = c.in-Ok.ensures.parts in
    let h = c.from_fields-header.result in
    let rest : List ℕ → List ℕ = λ (front : List ℕ). front ++ flat_map optional_line pushed.blocks ++ sealed_lines pushed.sealed_part in
    let front : c.push_front.new.lines.items ≡ front_lines text h c.in_ok-count.count =
    c.push_front.ensures.lines ∙ ap (λ (start : List ℕ). start ++ front_lines text h c.in_ok-count.count) c.new-lines.ensures in
    record {
      parts = record { header = h; reserved = take 2 (drop 14 text); optional_blocks = pushed.blocks; sealed_part = pushed.sealed_part };
      met = c.in-Ok.ensures.met;
      parts_are = record {
        widths = c.from_fields-header.ensures.widths;
        fields_are = c.from_fields-header.ensures.fields ∙ c.array_of.ensures.bytes;
        count_is = subst (HasCount text) (sym pushed.count_is) c.in_ok-count.ensures.count;
        reserved_is = refl;
        each_optional = pushed.each;
        laid_out = pushed.laid_out;
      };
      text_is = pushed.lines ∙ ap rest (front ∙ ap (λ (n : ℕ). front_lines text h n) (sym pushed.count_is));
    }
