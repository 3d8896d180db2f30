-- What is meant by texts.
use Rattle.std.proofs.Common.{◌≡◌, ℕ, suc, List, [], ◌∷◌, ◌++◌, ap, length, refl}
use Rattle.duk_service.specs.Files.{FileKnown}
use Rattle.duk_program.specs.Secrets.{EachMeans, Means}

-- one text more
pub means_push : (held : List ℕ → FileKnown) (written texts : List (List ℕ)) (word text : List ℕ) → EachMeans held written texts
    → Means held word text → EachMeans held (written ++ word ∷ []) (texts ++ text ∷ [])
means_push held [] [] word text each one = (one, tt)
means_push held (other ∷ written) (told ∷ texts) word text each one = (each.0, means_push held written texts word text each.1 one)
means_push held [] (told ∷ texts) word text each one = absurd each
means_push held (other ∷ written) [] word text each one = absurd each

-- as many texts as are written
pub means_length : (held : List ℕ → FileKnown) (written texts : List (List ℕ)) → EachMeans held written texts → length texts ≡ length written
means_length held [] [] each = refl
means_length held (word ∷ written) (text ∷ texts) each = ap suc (means_length held written texts each.1)
means_length held [] (text ∷ texts) each = absurd each
means_length held (word ∷ written) [] each = absurd each
