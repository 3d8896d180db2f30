use Rattle.std.proofs.Common.{◌≡◌, ◌∙◌, ◌<◌, ◌+◌, ℕ, List, [], map, sym, ap, subst, length-set, get_or, arith}
use Rattle.std.proofs.lemmas.List.{length-map, map-set}
use Rattle.duk_hsm.specs.inner.Group.{asked_at}
use Rattle.duk_hsm.proofs.AskedNumbers.{asked_there}
use Rattle.duk_hsm.proofs.WrittenPlaces.{written_below}
use Rattle.duk_hsm.proofs.lanes.texts_in.Goals as goal

pub loop-i-preserved : goal.loop-i-preserved
loop-i-preserved c =
    let asked = c.args.asked.now in
    let i = c.loop-i.i in
    let texts = c.loop-i.texts in
    let text = c.text_bytes.result in
    let AreTexts : List (List ℕ) → Type 0 = λ texts. (p : ℕ) → p < i + 1 → get_or texts p [] ≡ (asked_at asked p).text in
    record {
      size = length-set texts i text ∙ c.loop-i.invariant.size;
      below =
          subst AreTexts (sym (map-set (λ text. text.now) texts i text))
          (written_below (λ p text. text ≡ (asked_at asked p).text) (map (λ text. text.now) texts) i text.now [] (omega (arith, length-map texts (λ text. text.now), c.loop-i.invariant.size, c.loop-i-test.true, c.requires.few)) c.loop-i.invariant.below
          (c.text_bytes.ensures ∙ ap (λ one. one.text) (asked_there asked i c.index-asked-i.result c.loop-i-test.true c.index-asked-i.is)));
    }
