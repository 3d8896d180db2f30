use Rattle.std.proofs.Common.{◌≡◌, ◌∙◌, ◌++◌, ◌∷◌, List, ℕ, [], ◌-◌, ap, arith, drop, length, length-drop, replicate, take}
use Rattle.std.proofs.lemmas.List.{append_assoc, take_all}
use Rattle.duk_calls.proofs.modules.new_image.Goals as goal

pub returns : goal.returns
returns c =
    let lmk = c.args.lmk.now in
    let zeros : List ℕ = replicate 4681 0 in
    let size : List ℕ = length lmk ∷ [] in
    let rest : List ℕ = drop (length lmk) (replicate 24 0) in
    let whole : take (24 - length lmk) rest ≡ rest = take_all (24 - length lmk) rest (omega (arith, length-drop {A = ℕ} (length lmk) (replicate 24 0))) in
    c.extend-4.ensures
    ∙ ap (λ rest. c.extend-3.new.image.items ++ rest) whole
    ∙ ap (λ front. front ++ rest) (c.extend-3.ensures ∙ ap (λ front. front ++ lmk) (c.extend-2.ensures ∙ ap (λ front. front ++ size) (c.extend.ensures ∙ ap (λ front. front ++ zeros) c.new-image.ensures)))
    ∙ append_assoc (zeros ++ size) lmk rest
    ∙ append_assoc zeros size (lmk ++ rest)
