use Rattle.std.proofs.Common.{◌≡◌, ℕ, ◌<◌, Bool, true, false, Option, Some, None, IfSome, IsNone, MatchBool, eqb, eqb-true, eq-eqb, refl, sym, ◌∙◌, subst, arith, true≢false}
use Rattle.std.specs.Option.{option_eq}
use Rattle.duk_tree.specs.Next.{IsLast, IsNextUsable}
use Rattle.duk_tree.specs.Path.{IsUsable}
use Rattle.duk_host.specs.inner.Index.{AreApart}
use Rattle.duk_host.proofs.ranges.comes_right_after.Goals as goal

by_test : (last counter next : ℕ) (same : Bool) → eqb next counter ≡ same → IsNextUsable last next → IsUsable counter → last < counter
    → MatchBool same (IsNextUsable last counter) (AreApart last counter)
by_test last counter next true is is_next usable above = subst (λ counter. IsNextUsable last counter) (eqb-true next counter is) is_next
by_test last counter next false is is_next usable above =
    let least = is_next.is_least counter usable above in
    let differ = λ (same : next ≡ counter). true≢false (sym (eq-eqb next counter same) ∙ is) in
    record {
      between = next;
      is_usable = is_next.is_usable;
      is_above = is_next.is_above;
      is_below = omega (arith, least, differ);
    }

by_next : (last counter : ℕ) (next : Option ℕ) → IfSome next (IsNextUsable last) → (IsNone next → IsLast last) → IsUsable counter → last < counter
    → MatchBool (option_eq eqb next (Some counter)) (IsNextUsable last counter) (AreApart last counter)
by_next last counter None found none usable above = absurd (let most = none refl counter usable in omega (arith, most, above))
by_next last counter (Some next) found none usable above = by_test last counter next (eqb next counter) refl found usable above

pub returns : goal.returns
returns c =
    rw c.eq.ensures (by_next c.args.last c.args.counter c.next_usable.result c.next_usable.ensures.found c.next_usable.ensures.none.0 c.requires.usable c.requires.above)
