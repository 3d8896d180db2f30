-- The end of the part that an item is in.
use Rattle.std.proofs.Common.{◌≡◌, ◌+◌, ◌-◌, ◌*◌, ◌/◌, ◌%◌, ◌<◌, ◌≤◌, ℕ, true, false, Option, Some, None, eqb, ap, refl, sym, subst, ◌∙◌, arith, rules}
use Rattle.std.proofs.lemmas.Nat.{div-add-mod', mod-mul-add, mod_below}
use Rattle.dukpt.specs.inner.Progress.{HasItems, each_of, is_last, is_told, IsNextTold}

each_some : (total : Option ℕ) → 0 < each_of total
each_some None = search rules
each_some (Some total) = search rules

-- it ends a whole part
ends_part : (each before : ℕ) → 0 < each → (before + (each - before % each)) % each ≡ 0
ends_part each before some =
    let below = mod_below before each some in
    let split = div-add-mod' before each in
    let next : before + (each - before % each) ≡ (before / each + 1) * each + 0 = omega arith in
    ap (λ n. n % each) next ∙ mod-mul-add (before / each + 1) each 0 some

-- no item before it does
inside_part : (each before item : ℕ) → 0 < each → before < item → item < before + (each - before % each) → eqb (item % each) 0 ≡ false
inside_part each before item some above below =
    let small = mod_below before each some in
    let split = div-add-mod' before each in
    let place = item - before / each * each in
    let is : item ≡ before / each * each + place = omega arith in
    let inside : place < each = omega arith in
    let rest : item % each ≡ place = ap (λ n. n % each) is ∙ mod-mul-add (before / each) each place inside in
    let positive : 0 < place = omega arith in
    search rules

-- it is not the last, where there are more
not_last : (total : Option ℕ) (item done : ℕ) → HasItems total done → item < done → is_last total item ≡ false
not_last None item done has below = refl
not_last (Some total) item done has below = search rules

told_at_end : (total : Option ℕ) (item : ℕ) → item % each_of total ≡ 0 → is_told total item ≡ true
told_at_end total item ends = rw ends refl

not_told : (total : Option ℕ) (item : ℕ) → eqb (item % each_of total) 0 ≡ false → is_last total item ≡ false → is_told total item ≡ false
not_told total item inside within = rw (inside, within) refl

-- a line stands after the one that ends the part
pub next_at_end : (total : Option ℕ) (before done each : ℕ) → each ≡ each_of total → HasItems total done → before < done
    → each - before % each ≤ done - before → IsNextTold total before done (before + (each - before % each))
next_at_end total before done each is has order fits =
    let some : 0 < each = subst (λ n. 0 < n) (sym is) (each_some total) in
    let small = mod_below before each some in
    let ends : (before + (each - before % each)) % each_of total ≡ 0 =
    subst (λ n. (before + (each - before % each)) % n ≡ 0) is (ends_part each before some) in
    record {
      behind = omega arith;
      within = omega arith;
      told = told_at_end total (before + (each - before % each)) ends;
      first = λ earlier above below.
          let inside : eqb (earlier % each_of total) 0 ≡ false =
          subst (λ n. eqb (earlier % n) 0 ≡ false) is (inside_part each before earlier some above below) in
          not_told total earlier inside (not_last total earlier done has (omega arith));
    }
