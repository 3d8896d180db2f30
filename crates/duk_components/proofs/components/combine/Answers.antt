use Rattle.std.proofs.Common.{◌≡◌, ◌+◌, ◌<◌, ◌≤◌, ◌++◌, ◌∷◌, [], List, ℕ, Some, None, map, get_or, length, take, ap, sym, ◌∙◌, arith}
use Rattle.std.proofs.lemmas.List.{get_or-map, length-map, length-take}
use Rattle.duk_components.specs.Components.{component_of}
use Rattle.duk_components.proofs.ComponentsAreRead.{as_many, have_one_length, lines_more, no_more, one_length, other_more, whole_written, write_more}
use Rattle.duk_components.proofs.components.combine.Goals as goal

pub returns-in-None-clause-refused : goal.returns-in-None-clause-refused
returns-in-None-clause-refused c =
    let texts : List (List ℕ) = map (λ text. text.now) c.args.texts.now in
    let i = c.loop-place.place in
    let now = c.loop-place.invariant in
    let inside : i < length texts = omega (arith, length-map c.args.texts.now (λ text. text.now), c.loop-place-test.true) in
    let none : component_of (get_or texts i []) ≡ None =
    ap component_of (get_or-map (λ text. text.now) c.args.texts.now i _ [] (omega (arith, c.loop-place-test.true))) ∙ sym c.component_of.ensures ∙ c.in-None.is in
    record {
      inside = inside;
      keys = now.keys;
      before = record { written = now.written; one_length = have_one_length now.keys c.loop-place.sum now.sum };
      refused = no_more texts i inside none;
    }

pub returns-in-None-add_component-clause-refused : goal.returns-in-None-add_component-clause-refused
returns-in-None-add_component-clause-refused c =
    let texts : List (List ℕ) = map (λ text. text.now) c.args.texts.now in
    let i = c.loop-place.place in
    let now = c.loop-place.invariant in
    let component = c.in-Some.component in
    let inside : i < length texts = omega (arith, length-map c.args.texts.now (λ text. text.now), c.loop-place-test.true) in
    let read : component_of (get_or texts i []) ≡ Some component =
    ap component_of (get_or-map (λ text. text.now) c.args.texts.now i _ [] (omega (arith, c.loop-place-test.true))) ∙ sym c.component_of.ensures ∙ c.in-Some.is in
    record {
      inside = inside;
      keys = now.keys;
      before = record { written = now.written; one_length = have_one_length now.keys c.loop-place.sum now.sum };
      refused = other_more texts now.keys i c.loop-place.sum component inside now.written now.sum read c.in-None-add_component.ensures.none;
    }

pub loop-place-preserved : goal.loop-place-preserved
loop-place-preserved c =
    let texts : List (List ℕ) = map (λ text. text.now) c.args.texts.now in
    let i = c.loop-place.place in
    let now = c.loop-place.invariant in
    let component = c.in-Some.component in
    let inside : i < length texts = omega (arith, length-map c.args.texts.now (λ text. text.now), c.loop-place-test.true) in
    let read : component_of (get_or texts i []) ≡ Some component =
    ap component_of (get_or-map (λ text. text.now) c.args.texts.now i _ [] (omega (arith, c.loop-place-test.true))) ∙ sym c.component_of.ensures ∙ c.in-Some.is in
    let many : i + 1 ≡ 1 + length now.keys = omega (arith, inside, length-take i texts, as_many (take i texts) now.keys now.written) in
    record {
      keys = now.keys ++ component ∷ [];
      written = write_more texts now.keys i component inside now.written read;
      sum = c.in-Some-add_component.ensures.added now.keys now.sum;
      lines = lines_more now.keys component (i + 1) c.loop-place.lines.items _ many now.lines c.push_component.ensures.line;
      length = omega (arith, now.length, c.push_component.ensures.len);
    }

pub returns-clause-combined : goal.returns-clause-combined
returns-clause-combined c =
    let texts : List (List ℕ) = map (λ text. text.now) c.args.texts.now in
    let now = c.loop-place.invariant in
    let is_sum = rw c.in-Some-sum.is at now.sum in
    let whole : length texts ≤ c.loop-place.place = omega (arith, length-map c.args.texts.now (λ text. text.now), c.loop-place-test.false) in (
      now.keys,
      record {
        written = whole_written texts now.keys c.loop-place.place whole now.written;
        one_length = one_length now.keys c.in-Some-sum.lmk is_sum;
      },
      is_sum.1,
      now.lines,
    )
