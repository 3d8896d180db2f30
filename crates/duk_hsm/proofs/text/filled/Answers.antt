-- What is left of the zeros, after the text.
use Rattle.std.proofs.Common.{ap₂, ◌++◌, List, ℕ, length}
use Rattle.std.proofs.lemmas.List.{drop-replicate}
use Rattle.duk_hsm.proofs.text.filled.Goals as goal

pub returns : goal.returns
returns c =
    ap₂ (λ (front rest : List ℕ). front ++ rest) c.copy_from_slice.ensures.after (drop-replicate (length c.args.text.now) 64 0)
