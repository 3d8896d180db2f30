-- A store that is calm reports no failed device step before it is armed, whatever the outcomes of a world
-- are: which of them say that the store was armed, and which that a device step of it failed, is given.
use Rattle.std.proofs.Common.{◌≡◌, ◌⊎◌, ◌++◌, ◌∷◌, [], List, inl, inr, refl}
use Rattle.std.specs.List.{Any}
use Rattle.std.proofs.lemmas.List.Elements.{Contains-append_left}
use Rattle.std.proofs.lemmas.List.Quantifiers.{Any-push}

-- what is so of some thing of a list stays so where one is added
pub any_stays : {A : Type 0} (P : A → Type 0) (things : List A) (last : A) → Any P things → Any P (things ++ last ∷ [])
any_stays P things last (place, thing, within, is, holds) =
    let among = Contains-append_left things (last ∷ []) thing (place, within, is) in
    (among.0, thing, among.1, among.2, holds)

-- where a list with one more is taken apart at a thing, that is the one, or it stands before
pub last_or_before : {A : Type 0} (things earlier later : List A) (last thing : A) → things ++ last ∷ [] ≡ earlier ++ thing ∷ later
    → ((earlier ≡ things) × (last ≡ thing)) ⊎ ((rest : List A) × (things ≡ earlier ++ thing ∷ rest))
last_or_before [] [] later last thing is = inl (refl, cc)
last_or_before [] (first ∷ []) later last thing is = cc
last_or_before [] (first ∷ second ∷ earlier) later last thing is = cc
last_or_before (first ∷ things) [] later last thing is = inr (things, cc)
last_or_before (first ∷ things) (other ∷ earlier) later last thing is = elim (last_or_before things earlier later last thing cc) [
  | inl same ↦ inl (cc, same.1)
  | inr before ↦ inr (before.0, cc)
]

module _ {O : Type 0} (Arms Fails : O → Type 0) where
  -- where an outcome says that a device step failed, one before it says that the store was armed
  abbrev pub FailsOnceArmed : List O → Type 0
  FailsOnceArmed outcomes = (earlier later : List O) (outcome : O) → outcomes ≡ earlier ++ outcome ∷ later → Fails outcome → Any Arms earlier

  -- the store was armed, or it is calm yet; and it reported no failed device step before it was armed
  abbrev pub CalmSince : Type 0 → List O → Type 0
  CalmSince calm outcomes = (Any Arms outcomes ⊎ calm) × FailsOnceArmed outcomes

  none_fails : FailsOnceArmed []
  none_fails [] later outcome is fails = cc
  none_fails (first ∷ earlier) later outcome is fails = cc

  pub calm_first : (calm : Type 0) → calm → CalmSince calm []
  calm_first calm holds = (inr holds, none_fails)

  fails_once_armed : (outcomes : List O) (last : O) → FailsOnceArmed outcomes → Any Arms outcomes ⊎ (¬ Fails last) → FailsOnceArmed (outcomes ++ last ∷ [])
  fails_once_armed outcomes last before either earlier later outcome is fails = elim (last_or_before outcomes earlier later last outcome is) [
    | inl (same, here) ↦ rw same (elim either [
      | inl armed ↦ armed
      | inr spared ↦ absurd (spared (rw here fails))
    ])
    | inr (rest, split) ↦ before earlier rest outcome split fails
  ]

  -- one step more
  pub calm_more : (calm calm_then : Type 0) (outcomes : List O) (last : O) → Arms last ⊎ (¬ Arms last) → (calm → ¬ Fails last) → (calm → ¬ Arms last → calm_then) → CalmSince calm outcomes → CalmSince calm_then (outcomes ++ last ∷ [])
  calm_more calm calm_then outcomes last either spared stays (inl armed, fails) = (inl (any_stays Arms outcomes last armed), fails_once_armed outcomes last fails (inl armed))
  calm_more calm calm_then outcomes last either spared stays (inr holds, fails) = (
    elim either [
      | inl armed ↦ inl (Any-push Arms outcomes last armed)
      | inr unarmed ↦ inr (stays holds unarmed)
    ],
    fails_once_armed outcomes last fails (inr (spared holds)),
  )

  -- and where nothing more is reported
  pub calm_left : (calm calm_then : Type 0) (outcomes : List O) → (calm → calm_then) → CalmSince calm outcomes → CalmSince calm_then outcomes
  calm_left calm calm_then outcomes stays (inl armed, fails) = (inl armed, fails)
  calm_left calm calm_then outcomes stays (inr holds, fails) = (inr (stays holds), fails)
