use Rattle.std.proofs.Common.{◌≡◌, ◌∙◌, List, ℕ, arith, drop, sym}
use Rattle.std.proofs.lemmas.List.{take_rest}
use Rattle.std.specs.Cmp.Lexicographic.{bytes_decides, same_text}
use Rattle.duk_journal.proofs.CheckedContents.{said_length}
use Rattle.duk_journal.proofs.checked_format.is_checked.Goals as goal

pub slice_bounds-check_behind-end : goal.slice_bounds-check_behind-end
slice_bounds-check_behind-end c = omega (arith, said_length c.args.contents.now c.requires)

pub returns : goal.returns
returns c =
    let contents : List ℕ = c.args.contents.now in
    let behind : List ℕ = c.copy_from_slice.new.self in
    let found : behind ≡ drop 26 contents = c.copy_from_slice.ensures.after ∙ take_rest contents 26 in
    let right = c.check_behind.ensures in (
      (λ is. sym found ∙ same_text behind c.check_behind.result (sym is ∙ c.eq.ensures) ∙ right),
      (λ has. c.eq.ensures ∙ (bytes_decides behind c.check_behind.result).1 (found ∙ has ∙ sym right)),
    )
