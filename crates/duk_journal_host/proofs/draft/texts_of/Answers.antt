use Rattle.std.proofs.Common.{◌≡◌, ◌∙◌, ◌<◌, ◌+◌, ℕ, List, [], ap, arith, get_or, length, length-set, map, subst, sym}
use Rattle.std.proofs.lemmas.List.{get_or-map, length-map, map-set}
use Rattle.duk_group.specs.Numbers.{bytes_at}
use Rattle.duk_journal_host.specs.inner.Draft.{text_in}
use Rattle.duk_journal_host.proofs.Drafts.{written_below}
use Rattle.duk_journal_host.proofs.draft.texts_of.Goals as goal

pub loop-place-preserved : goal.loop-place-preserved
loop-place-preserved c =
    let drafts = c.args.drafts.now in
    let place = c.loop-place.place in
    let texts = c.loop-place.texts in
    let text = c.text.result in
    let AreTexts : List (List ℕ) → Type 0 = λ texts. (p : ℕ) → p < place + 1 → get_or texts p [] ≡ bytes_at (map text_in drafts) p in
    let room : place < length (map (λ text. text.now) texts) = omega (arith, length-map texts (λ text. text.now), c.loop-place.invariant.size, c.loop-place-test.true, c.requires.few) in
    let here : text.now ≡ bytes_at (map text_in drafts) place =
    c.text.ensures ∙ ap text_in c.index-drafts-place.is ∙ sym (get_or-map text_in drafts place c.index-drafts-place.result [] c.loop-place-test.true) in
    record {
      size = length-set texts place text ∙ c.loop-place.invariant.size;
      below = subst AreTexts (sym (map-set (λ text. text.now) texts place text)) (written_below (λ p text. text ≡ bytes_at (map text_in drafts) p) (map (λ text. text.now) texts) place text.now [] room c.loop-place.invariant.below here);
    }
