-- Sums over two lists of things that have numbers, each of which stands once.
use Rattle.std.proofs.Common.{◌≡◌, ◌≢◌, ◌⊎◌, ◌≤◌, ◌<◌, ◌++◌, ◌∷◌, [], ℕ, suc, Bool, true, List, AllPairs, Contains, cond, drop, drop-cons, get_or, inl, inr, length, sym, ap, subst, ◌∙◌, take, arith}
use Rattle.std.proofs.lemmas.List.{take-append-drop}
use Rattle.std.proofs.lemmas.List.Elements.{All-contains, All-contains_itself, All-filter, Contains-append_cases, Contains-append_left, Contains-append_right, filter_passes}
use Rattle.std.proofs.lemmas.List.Sums.{sum_by-cons, sum_by-remove}
use Rattle.std.specs.List.{filter, remove, sum_by}
use Rattle.duk_tree.specs.Serial.{Serial}
use Rattle.duk_hosts.proofs.Members.{first_in, front_or, later_in, none_in}

-- ---- what a filter keeps

pub from_filter : {A : Type 0} (p : A → Bool) (things : List A) (thing : A) → Contains (filter p things) thing → Contains things thing × (p thing ≡ true)
from_filter p things thing is_in = (
  All-contains (Contains things) (filter p things) thing (All-filter p (Contains things) things (All-contains_itself things)) is_in,
  All-contains (λ it. p it ≡ true) (filter p things) thing (filter_passes p things) is_in,
)

stays_in : {A : Type 0} (passes : Bool) (first thing : A) (things : List A) → Contains things thing → Contains (cond passes (first ∷ things) things) thing
stays_in true first thing things is_in = later_in first things thing is_in
stays_in _ first thing things is_in = is_in

pub in_filter : {A : Type 0} (p : A → Bool) (things : List A) (thing : A) → Contains things thing → p thing ≡ true → Contains (filter p things) thing
in_filter p [] thing is_in passes = absurd (none_in thing is_in)
in_filter p (first ∷ things) thing is_in passes = elim (front_or first things thing is_in) [
  | inl same ↦
      subst (λ (b : Bool). Contains (cond b (first ∷ filter p things) (filter p things)) thing) (sym (ap p (sym same) ∙ passes))
      (subst (λ it. Contains (it ∷ filter p things) thing) same (first_in thing (filter p things)))
  | inr later ↦ stays_in (p first) first thing (filter p things) (in_filter p things thing later passes)
]

-- a thing stays where another one is removed
in_rest : {A : Type 0} (things : List A) (place : ℕ) (removed thing : A) → place < length things → get_or things place removed ≢ thing → Contains things thing → Contains (remove things place) thing
in_rest things place removed thing within other is_in =
    let before = take place things in
    let after = drop (suc place) things in
    let parts : things ≡ before ++ (get_or things place removed ∷ after) = sym (take-append-drop place things) ∙ ap (λ rest. before ++ rest) (drop-cons things place removed within) in
    elim (Contains-append_cases before (get_or things place removed ∷ after) thing (subst (λ all. Contains all thing) parts is_in)) [
      | inl front ↦ Contains-append_left before after thing front
      | inr back ↦ elim (front_or (get_or things place removed) after thing back) [
        | inl same ↦ absurd (other (sym same))
        | inr later ↦ Contains-append_right before after thing later
      ]
    ]

-- ---- sums

-- a thing of this number is worth this amount at least
pub record Covers {B : Type 0} (named : B → Serial) (worth : B → ℕ) (others : List B) (of : Serial) (sum : ℕ) : Type 0 where
  pub thing : B
  pub is_in : Contains others thing
  pub number_is : named thing ≡ of
  pub enough : sum ≤ worth thing

module _ {A B : Type 0} (number : A → Serial) (named : B → Serial) (amount : A → ℕ) (worth : B → ℕ) where
  -- no two things have one number
  abbrev AreApart : List A → Type 0
  AreApart things = AllPairs (λ one other. number one ≢ number other) things

  later_apart : (first : A) (things : List A) → AreApart (first ∷ things) → AreApart things
  later_apart first things apart = λ i j d below within. apart (suc i) (suc j) d (omega (arith, below)) (omega (arith, within))

  first_apart : (first : A) (things : List A) (other : A) → AreApart (first ∷ things) → Contains things other → number first ≢ number other
  first_apart first things other apart (k, within, is) same =
      apart 0 (suc k) other (omega arith) (omega (arith, within)) (same ∙ ap number (sym is))

  -- where each amount is nothing or covered, and no number stands twice, the sum is covered
  pub sum_covered : (things : List A) (others : List B) → AreApart things → ((thing : A) → Contains things thing → (amount thing ≡ 0) ⊎ Covers named worth others (number thing) (amount thing))
      → sum_by amount things ≤ sum_by worth others
  sum_covered [] others apart covered = omega arith
  sum_covered (first ∷ things) others apart covered =
      let rest_apart = later_apart first things apart in
      let sum = sum_by-cons amount first things in
      elim (covered first (first_in first things)) [
        | inl nothing ↦ omega (arith, sum, nothing, sum_covered things others rest_apart (λ thing is_in. covered thing (later_in first things thing is_in)))
        | inr covers ↦
            let place = covers.is_in.0 in
            let within = covers.is_in.1 in
            let is : worth (get_or others place covers.thing) ≡ worth covers.thing = ap worth covers.is_in.2 in
            let most = sum_covered things (remove others place) rest_apart (λ thing is_in. elim (covered thing (later_in first things thing is_in)) [
              | inl nothing ↦ inl nothing
              | inr also ↦ inr (record {
                thing = also.thing;
                is_in = in_rest others place covers.thing also.thing within
                    (λ same. first_apart first things thing apart is_in (sym covers.number_is ∙ ap named (sym covers.is_in.2 ∙ same) ∙ also.number_is)) also.is_in;
                number_is = also.number_is;
                enough = also.enough;
              })
            ]) in
            omega (arith, sum, covers.enough, is, sum_by-remove worth others place covers.thing within, most)
      ]
