-- Lists whose things are in a relation, place by place.
use Rattle.std.proofs.Common.{◌≡◌, ◌<◌, ◌+◌, ◌++◌, ◌∷◌, ℕ, zero, suc, List, [], arith, get_or, length, refl, subst}
use Rattle.duk_journal_host.specs.Candidate.{ArePaired}

-- one more at the end of each
pub paired_more : {A B : Type 0} (related : A → B → Type 0) (ones : List A) (others : List B) (one : A) (other : B) → ArePaired related ones others → related one other → ArePaired related (ones ++ one ∷ []) (others ++ other ∷ [])
paired_more related [] [] one other are is = (is, tt)
paired_more related [] (next ∷ others) one other are is = absurd are
paired_more related (first ∷ ones) [] one other are is = absurd are
paired_more related (first ∷ ones) (next ∷ others) one other are is = (are.0, paired_more related ones others one other are.1 is)

-- there are as many of both
pub as_many_paired : {A B : Type 0} (related : A → B → Type 0) (ones : List A) (others : List B) → ArePaired related ones others → length others ≡ length ones
as_many_paired related [] [] are = omega arith
as_many_paired related [] (next ∷ others) are = absurd are
as_many_paired related (first ∷ ones) [] are = absurd are
as_many_paired related (first ∷ ones) (next ∷ others) are = omega (arith, as_many_paired related ones others are.1)

-- those at one place
pub paired_at : {A B : Type 0} (related : A → B → Type 0) (ones : List A) (others : List B) (place : ℕ) (one : A) (other : B)
    → ArePaired related ones others → place < length ones → get_or ones place one ≡ one → get_or others place other ≡ other → related one other
paired_at related [] [] place one other are within is other_is = absurd (omega (arith, within))
paired_at related [] (next ∷ others) place one other are within is other_is = absurd are
paired_at related (first ∷ ones) [] place one other are within is other_is = absurd are
paired_at related (first ∷ ones) (next ∷ others) zero one other are within is other_is = subst (λ one. related one other) is (subst (λ other. related first other) other_is are.0)
paired_at related (first ∷ ones) (next ∷ others) (suc place) one other are within is other_is = paired_at related ones others place one other are.1 (omega (arith, within)) is other_is

-- there is a thing at each place of a list
pub item_there : {A : Type 0} (things : List A) (place : ℕ) → place < length things → (one : A) × (get_or things place one ≡ one)
item_there [] place within = absurd (omega (arith, within))
item_there (first ∷ things) zero within = (first, refl)
item_there (first ∷ things) (suc place) within = item_there things place (omega (arith, within))
