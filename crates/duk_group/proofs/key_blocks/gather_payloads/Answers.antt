use Rattle.std.proofs.Common.{ℕ, List, ◌++◌, refl, ap₂, ◌∙◌}
use Rattle.duk_group.specs.Numbers.{bytes_at}
use Rattle.duk_group.proofs.PartsOfMessages.{three_parts}
use Rattle.duk_group.proofs.key_blocks.gather_payloads.Goals as goal

pub returns : goal.returns
returns c = λ i h.
    ap₂ (λ (a b : List ℕ). a ++ b) (c.gather_part.ensures.parts i h)
    (ap₂ (λ (a b : List ℕ). a ++ b) (c.gather_part-2.ensures.parts i h)
    (ap₂ (λ (a b : List ℕ). a ++ b) (c.gather_part-3.ensures.parts i h) refl))
    ∙ three_parts (bytes_at c.args.payloads.now i) (c.gather_part.ensures.width i h)
