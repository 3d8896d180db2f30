use Rattle.std.proofs.Common.{◌≡◌, ℕ, List, Option, Some, [], ◌∷◌, Bor, length, map, ap, sym, ◌∙◌, arith}
use Rattle.std.proofs.lemmas.List.{length-map}
use Rattle.duk_tdes.specs.KeyText.{tdes_key_of_text}
use Rattle.duk_tdes.specs.declared.key.KeyBytes.{KeyBytes}
use Rattle.duk_components.proofs.new_component.random_key.Goals as goal
use Rattle.duk_components.proofs.new_component.random_key.Goals.{in_default-via-then-texts-lt1, in_default-via-else-texts-lt1+else-texts-lt2}

pub returns-in_default : goal.returns-in_default
returns-in_default c = λ key is.
    let texts : List (List ℕ) = map {A = Bor (List ℕ)} {B = List ℕ} (λ text. text.now) c.args.texts.now in
    let one : length texts ≡ 1 =
    sym (length-map texts tdes_key_of_text) ∙ ap length is.written ∙ length-map {B = Option KeyBytes} (key ∷ []) Some in
    let count : length c.args.texts.now ≡ 1 = sym (length-map c.args.texts.now (λ (text : Bor (List ℕ)). text.now)) ∙ one in
    elim c.in_default.branch [
      | in_default-via-then-texts-lt1 w ↦ search (arith, count)
      | in_default-via-else-texts-lt1+else-texts-lt2 w ↦ search (arith, count)
    ]
