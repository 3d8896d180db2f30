-- The registers of a station: of an initial key serial number that it owns, and behind them each number
-- that it used.
use Rattle.std.proofs.Common.{◌≡◌, ◌≢◌, ◌⊎◌, ◌<◌, ◌^◌, ◌++◌, ◌∷◌, inl, inr, ℕ, List, [], Option, Some, None, Contains, ap, arith, refl, subst, sym, ◌∙◌}
use Rattle.std.proofs.lemmas.List.Elements.{Contains-append_left, Contains-push}
use Rattle.duk_regs.specs.Registers.{IsPastOf, IsRegisterSet, RegisterSet}
use Rattle.duk_term.specs.Begin.{TakesNumber}
use Rattle.duk_term.specs.Load.{IsFirstSet, Loading, MayTake}
use Rattle.duk_term.specs.Terminal.{serial_of}
use Rattle.duk_term.specs.declared.state.State.{State}
use Rattle.duk_term.specs.declared.state.State.TheVariants.{Stopped, Empty, Loaded}
use Rattle.duk_tree.specs.Next.{ComesAfter}
use Rattle.duk_tree.specs.Serial.{Serial}
use Rattle.duk_stations.specs.Owner.{IsOwner}
use Rattle.duk_stations.specs.Registers.{RegisterLaws}
use Rattle.duk_stations.specs.declared.owner.Owner.{Owner}
use Rattle.duk_stations.proofs.Terminals.{StateHas}

-- numbers that were used
abbrev pub Used : Type 1
Used = Serial → Type 0

-- registers never come to this number again: it is under a past initial key serial number, or below
-- their next one
abbrev pub IsBehind : Serial → RegisterSet → Type 0
IsBehind ksn set = IsPastOf ksn.iksn set ⊎ ((ksn.iksn ≡ set.iksn) × (ksn.counter < set.counter))

pub record SetHolds (used : Used) (owners : List Owner) (t : ℕ) (set : RegisterSet) : Type 0 where
  pub owned : IsOwner owners set.iksn t
  pub is_set : IsRegisterSet set
  pub behind : (ksn : Serial) → used ksn → IsOwner owners ksn.iksn t → IsBehind ksn set

-- without registers it used none
abbrev pub RegistersHold : Used → List Owner → ℕ → Option RegisterSet → Type 0
RegistersHold used owners t None = (ksn : Serial) → used ksn → ¬ IsOwner owners ksn.iksn t
RegistersHold used owners t (Some set) = SetHolds used owners t set

-- how numbers and owners may change beside a station: what it owns stays, and it used no more
pub record StaysBeside (t : ℕ) (used : Used) (owners : List Owner) (used_then : Used) (owners_then : List Owner) : Type 0 where
  pub owner : (iksn : ℕ) → IsOwner owners iksn t → IsOwner owners_then iksn t
  pub was_used : (ksn : Serial) → used_then ksn → IsOwner owners_then ksn.iksn t → used ksn × IsOwner owners ksn.iksn t

pub registers_beside : (t : ℕ) (used : Used) (owners : List Owner) (used_then : Used) (owners_then : List Owner) → StaysBeside t used owners used_then owners_then
    → (it : Option RegisterSet) → RegistersHold used owners t it → RegistersHold used_then owners_then t it
registers_beside t used owners used_then owners_then beside None holds = λ ksn has owned. let was = beside.was_used ksn has owned in holds ksn was.0 was.1
registers_beside t used owners used_then owners_then beside (Some set) holds = record {
  owned = beside.owner set.iksn holds.owned;
  is_set = holds.is_set;
  behind = λ ksn has owned. let was = beside.was_used ksn has owned in holds.behind ksn was.0 was.1;
}

-- ---- a number is taken

pub next_is_above : (counter next : ℕ) → counter < 2 ^ 21 → ComesAfter counter next → counter < next
next_is_above counter next fits after = elim after [
  | inl next ↦ next.is_above
  | inr last ↦ omega (arith, fits, last.1)
]

pub above_taken : RegisterLaws → (set left : RegisterSet) (key : List ℕ) → TakesNumber set key left → set.counter < left.counter
above_taken laws set left key takes = next_is_above set.counter left.counter (laws.fits set.counter takes.usable).0 takes.taken.next_counter

pub behind_left : RegisterLaws → (set left : RegisterSet) (key : List ℕ) (ksn : Serial) → TakesNumber set key left → IsBehind ksn set → IsBehind ksn left
behind_left laws set left key ksn takes behind =
    let above = above_taken laws set left key takes in
    elim behind [
      | inl past ↦ inl (subst (λ (past : List ℕ). Contains past ksn.iksn) (sym takes.taken.same_past) past)
      | inr below ↦ inr (below.0 ∙ sym takes.taken.same_iksn, omega (arith, below.1, above))
    ]

-- the number that is taken is behind what is left
pub taken_behind : RegisterLaws → (set left : RegisterSet) (key : List ℕ) → TakesNumber set key left → IsBehind (serial_of set) left
taken_behind laws set left key takes = inr (sym takes.taken.same_iksn, above_taken laws set left key takes)

-- what is behind registers is not their next number
pub is_new : (set : RegisterSet) (ksn : Serial) → IsRegisterSet set → IsBehind ksn set → ksn ≢ serial_of set
is_new set ksn is behind same =
    let iksn : ksn.iksn ≡ set.iksn = ap (λ (it : Serial). it.iksn) same in
    let counter : ksn.counter ≡ set.counter = ap (λ (it : Serial). it.counter) same in
    elim behind [
      | inl past ↦ is.iksn_is_not_past (subst (λ (it : ℕ). Contains set.past it) iksn past)
      | inr below ↦ omega (arith, below.1, counter)
    ]

-- so the next number was not used
pub not_used : (used : Used) (owners : List Owner) (t : ℕ) (set : RegisterSet) → SetHolds used owners t set → ¬ used (serial_of set)
not_used used owners t set holds has = is_new set (serial_of set) holds.is_set (holds.behind (serial_of set) has holds.owned) refl

-- registers that are left, where what was used meanwhile is behind them
pub holds_left : RegisterLaws → (used used_then : Used) (owners : List Owner) (t : ℕ) (set left : RegisterSet) (key : List ℕ) → TakesNumber set key left
    → ((ksn : Serial) → used_then ksn → used ksn ⊎ IsBehind ksn left) → SetHolds used owners t set → SetHolds used_then owners t left
holds_left laws used used_then owners t set left key takes cases holds = record {
  owned = subst (λ (iksn : ℕ). IsOwner owners iksn t) (sym takes.taken.same_iksn) holds.owned;
  is_set = laws.set set left key takes.usable takes.taken holds.is_set;
  behind = λ ksn has owned. elim (cases ksn has) [
    | inl before ↦ behind_left laws set left key ksn takes (holds.behind ksn before owned)
    | inr here ↦ here
  ];
}

-- ---- an initial key is loaded

-- what was used before is under past initial key serial numbers
behind_loaded : (used : Used) (owners : List Owner) (t : ℕ) (asked : Loading) (it : State) (set : RegisterSet) → MayTake it asked.iksn → IsFirstSet asked it set → StateHas (RegistersHold used owners t) it
    → (ksn : Serial) → used ksn → IsOwner owners ksn.iksn t → IsBehind ksn set
behind_loaded used owners t asked Stopped set may first holds ksn has owned = absurd (may.runs refl)
behind_loaded used owners t asked Empty set may first holds ksn has owned = absurd (holds ksn has owned)
behind_loaded used owners t asked (Loaded old pending) set may first holds ksn has owned =
    inl (subst (λ (list : List ℕ). Contains list ksn.iksn) (sym first.past_is) (elim (holds.behind ksn has owned) [
      | inl before ↦ Contains-append_left old.past (old.iksn ∷ []) ksn.iksn before
      | inr present ↦ subst (λ (it : ℕ). Contains (old.past ++ old.iksn ∷ []) it) (sym present.0) (Contains-push old.past old.iksn)
    ]))

pub holds_loaded : (used : Used) (owners : List Owner) (t : ℕ) (asked : Loading) (it : State) (set : RegisterSet) → IsOwner owners asked.iksn t → MayTake it asked.iksn → IsFirstSet asked it set
    → StateHas (RegistersHold used owners t) it → SetHolds used owners t set
holds_loaded used owners t asked it set owned may first holds = record {
  owned = subst (λ (iksn : ℕ). IsOwner owners iksn t) (sym first.iksn_is) owned;
  is_set = first.set_is;
  behind = behind_loaded used owners t asked it set may first holds;
}
