-- Lists of which the first is taken apart.
use Rattle.std.proofs.Common.{◌⊎◌, ◌∷◌, [], zero, suc, List, AllPairs, Any, Contains, get_or, inl, inr, refl, sym, subst, arith}
use Rattle.std.proofs.lemmas.List.Elements.{Contains-get_or}

-- what is so of some thing of a list is so of the first, or of one after it
pub any_cases : {A : Type 0} (P : A → Type 0) (first : A) (things : List A) → Any P (first ∷ things) → P first ⊎ Any P things
any_cases P first things (zero, thing, within, is, holds) = inl (subst P (sym is) holds)
any_cases P first things (suc place, thing, within, is, holds) = inr (place, thing, omega (arith, within), is, holds)

pub any_first : {A : Type 0} (P : A → Type 0) (first : A) (things : List A) → P first → Any P (first ∷ things)
any_first P first things holds = (zero, first, omega arith, refl, holds)

pub any_later : {A : Type 0} (P : A → Type 0) (first : A) (things : List A) → Any P things → Any P (first ∷ things)
any_later P first things (place, thing, within, is, holds) = (suc place, thing, omega (arith, within), is, holds)

pub any_of : {A : Type 0} (P : A → Type 0) (things : List A) (thing : A) → Contains things thing → P thing → Any P things
any_of P things thing (place, within, is) holds = (place, thing, within, is, holds)

pub any_none : {A : Type 0} (P : A → Type 0) → ¬ Any P []
any_none P any = omega (arith, any.2)

-- each two of a list are so where the first and each later one are, and each two of these
pub pairs_first : {A : Type 0} (R : A → A → Type 0) (first : A) (things : List A) → ((thing : A) → Contains things thing → R first thing) → AllPairs R things → AllPairs R (first ∷ things)
pairs_first R first things with_first later zero zero d below within = absurd (omega (arith, below))
pairs_first R first things with_first later zero (suc j) d below within = with_first (get_or things j d) (Contains-get_or things j d (omega (arith, within)))
pairs_first R first things with_first later (suc i) zero d below within = absurd (omega (arith, below))
pairs_first R first things with_first later (suc i) (suc j) d below within = later i j d (omega (arith, below)) (omega (arith, within))

pub no_pairs : {A : Type 0} (R : A → A → Type 0) → AllPairs R []
no_pairs R i j d below within = absurd (omega (arith, within))
