-- Lines that are appended one after another.
use Rattle.std.proofs.Common.{◌≡◌, ℕ, List, ◌++◌, append_assoc, ap, ◌∙◌}
use Rattle.duk_show.specs.Block.{worded_line}

-- a text, and another one after it
pub appended : (start mid end first second : List ℕ) → mid ≡ start ++ first → end ≡ mid ++ second → end ≡ start ++ (first ++ second)
appended start mid end first second one other =
    other ∙ ap (λ (front : List ℕ). front ++ second) one ∙ append_assoc start first second

-- a line whose words are known by another name
pub in_words : (start end name value words known : List ℕ) → end ≡ start ++ worded_line name value words → words ≡ known → end ≡ start ++ worded_line name value known
in_words start end name value words known is same = is ∙ ap (λ (w : List ℕ). start ++ worded_line name value w) same
