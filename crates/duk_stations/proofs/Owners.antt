-- Who owns an initial key serial number owns it alone and for good.
use Rattle.std.proofs.Common.{◌≡◌, ◌≢◌, ◌⊎◌, ◌++◌, ◌∷◌, [], ℕ, List, inl, inr, sym, ap, subst, arith}
use Rattle.std.proofs.lemmas.List.Elements.{Contains-append_left, Contains-push, Contains-push_cases}
use Rattle.duk_stations.specs.Owner.{BecomesOwner, IsElsewhere, IsOwner, JoinsOwners, Owns}
use Rattle.duk_stations.specs.declared.owner.Owner.{Owner}

-- each initial key serial number that is owned has one owner
abbrev pub HaveOneOwner : List Owner → Type 0
HaveOneOwner owners = (iksn t : ℕ) → Owns owners iksn t → IsOwner owners iksn t

-- how owners change: not at all, or as a load changes them
abbrev pub OwnersGo : List Owner → List Owner → Type 0
OwnersGo old new = (new ≡ old) ⊎ ((iksn t : ℕ) × BecomesOwner old iksn t new)

-- who owns with one more among the owners owned before, or is the new one
owns_cases : (old : List Owner) (loaded u iksn t : ℕ) → Owns (old ++ record { iksn = loaded; t = u } ∷ []) iksn t → Owns old iksn t ⊎ ((iksn ≡ loaded) × (t ≡ u))
owns_cases old loaded u iksn t owns = elim (Contains-push_cases old (record { iksn = loaded; t = u }) (record { iksn = iksn; t = t }) owns) [
  | inl before ↦ inl before
  | inr is ↦ inr (sym (ap (λ owner. owner.iksn) is), sym (ap (λ owner. owner.t) is))
]

-- an owner stays one where another joins them
stays_beside : (old : List Owner) (loaded u : ℕ) (new : List Owner) (iksn t : ℕ) → JoinsOwners old loaded u new → IsOwner old iksn t → IsOwner new iksn t
stays_beside old loaded u new iksn t joins is = subst (λ owners. IsOwner owners iksn t) (sym joins.joins) (record {
  owns = Contains-append_left old (record { iksn = loaded; t = u } ∷ []) (record { iksn = iksn; t = t }) is.owns;
  alone = λ other owns. elim (owns_cases old loaded u iksn other owns) [
    | inl before ↦ is.alone other before
    | inr joined ↦ absurd (joins.free t (subst (λ iksn. Owns old iksn t) joined.0 is.owns))
  ];
})

-- who joins the owners is one of them
joined_owns : (old : List Owner) (iksn t : ℕ) (new : List Owner) → JoinsOwners old iksn t new → IsOwner new iksn t
joined_owns old iksn t new joins = subst (λ owners. IsOwner owners iksn t) (sym joins.joins) (record {
  owns = Contains-push old (record { iksn = iksn; t = t });
  alone = λ other owns. elim (owns_cases old iksn t iksn other owns) [
    | inl before ↦ absurd (joins.free other before)
    | inr joined ↦ joined.1
  ];
})

-- an owner stays one
pub owner_stays : (old new : List Owner) → OwnersGo old new → (iksn t : ℕ) → IsOwner old iksn t → IsOwner new iksn t
owner_stays old new (inl same) iksn t is = subst (λ owners. IsOwner owners iksn t) (sym same) is
owner_stays old new (inr (loaded, u, inl joins)) iksn t is = stays_beside old loaded u new iksn t joins is
owner_stays old new (inr (loaded, u, inr keeps)) iksn t is = subst (λ owners. IsOwner owners iksn t) (sym keeps.same) is

-- each number still has one owner
pub one_owner_stays : (old new : List Owner) → OwnersGo old new → HaveOneOwner old → HaveOneOwner new
one_owner_stays old new (inl same) one = subst HaveOneOwner (sym same) one
one_owner_stays old new (inr (loaded, u, inl joins)) one = λ iksn t owns.
    elim (owns_cases old loaded u iksn t (subst (λ owners. Owns owners iksn t) joins.joins owns)) [
      | inl before ↦ stays_beside old loaded u new iksn t joins (one iksn t before)
      | inr joined ↦ subst (λ t. IsOwner new iksn t) (sym joined.1) (subst (λ iksn. IsOwner new iksn u) (sym joined.0) (joined_owns old loaded u new joins))
    ]
one_owner_stays old new (inr (loaded, u, inr keeps)) one = subst HaveOneOwner (sym keeps.same) one

-- where no other station owns a number, whoever owns it is this one
owns_here : (owners : List Owner) (iksn t u : ℕ) → ¬ IsElsewhere owners iksn t → Owns owners iksn u → u ≡ t
owns_here owners iksn t u free owns = grind (arith, λ (other : u ≢ t). free (record { owner = u; owns = owns; other = other }))

-- a station owns what it was loaded with, where no other station owned it
pub owns_loaded : (old : List Owner) (iksn t : ℕ) (new : List Owner) → ¬ IsElsewhere old iksn t → BecomesOwner old iksn t new → IsOwner new iksn t
owns_loaded old iksn t new free (inl joins) = joined_owns old iksn t new joins
owns_loaded old iksn t new free (inr keeps) = subst (λ owners. IsOwner owners iksn t) (sym keeps.same) (record {
  owns = subst (λ owner. Owns old iksn owner) (owns_here old iksn t keeps.owner free keeps.owns) keeps.owns;
  alone = λ other owns. owns_here old iksn t other free owns;
})

-- who owns one then owned it before, or is the station that was loaded
pub owned_before : (old : List Owner) (loaded u : ℕ) (new : List Owner) (iksn t : ℕ) → BecomesOwner old loaded u new → Owns new iksn t → Owns old iksn t ⊎ (t ≡ u)
owned_before old loaded u new iksn t (inl joins) owns = elim (owns_cases old loaded u iksn t (subst (λ owners. Owns owners iksn t) joins.joins owns)) [
  | inl before ↦ inl before
  | inr joined ↦ inr joined.1
]
owned_before old loaded u new iksn t (inr keeps) owns = inl (subst (λ owners. Owns owners iksn t) keeps.same owns)
