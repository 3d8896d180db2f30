-- Registers that are safe hold the key of no used number, nor of an ancestor of one.
use Rattle.std.proofs.Common.{pow_pos, ◌≡◌, ◌⊎◌, ◌<◌, ◌≤◌, ◌^◌, [], ◌∷◌, ℕ, List, length, inl, inr, refl, sym, ap, subst, arith}
use Rattle.std.specs.List.{Contains, slice_index}
use Rattle.duk_regs.specs.Image.{IsImage, IsImageOfVersion2}
use Rattle.duk_regs.specs.Registers.{AreFutureKeysOf, IsKeyOfNode, IsSpentIksn, RegisterSet, empty_register, register_at}
use Rattle.duk_term.specs.Body.{IsFoundAgain, IsTerminalBody, body_bytes, image_in, set_of_body}
use Rattle.duk_tree.specs.Derivation.{transaction_key_of}
use Rattle.duk_tree.specs.Frontier.{IsAncestorOrSelf, IsInFrontier}
use Rattle.duk_tree.specs.Next.{spent_counter}
use Rattle.duk_tree.specs.Path.{IsUsable, value_of}
use Rattle.duk_tree.specs.Serial.{Serial}
use Rattle.duk_stations.specs.Owner.{IsOwner}
use Rattle.duk_stations.specs.Registers.{RegisterLaws, UsableFits}
use Rattle.duk_stations.proofs.Numbers.{IsBehind, Used}
use Rattle.duk_stations.proofs.Safe.{RegistersSafe, Rest, SetSafe}
use Rattle.duk_stations.proofs.Terminals.{BodyHas}

-- the frontier at a counter has no used number, nor an ancestor of one
abbrev pub NoneUsed : Type 0
NoneUsed = (counter held node : ℕ) → counter ≤ 2 ^ 21 → IsInFrontier counter held → node < counter → ¬ IsAncestorOrSelf held node

-- each register is empty or holds the key of a node of the frontier
abbrev pub EachRegister : Type 0
EachRegister = (initial : List ℕ) (set : RegisterSet) (place : ℕ) → 1 ≤ set.counter → AreFutureKeysOf initial set → place < 21
    → (register_at set.registers place ≡ empty_register) ⊎ IsKeyOfNode initial set place

path_above_zero : (counter : ℕ) (path : List ℕ) → value_of path ≡ counter → 1 ≤ length path → 1 ≤ counter
path_above_zero counter [] is some = grind (arith, some)
path_above_zero counter (place ∷ parent) is some = let above = pow_pos place in omega (arith, is, above)

-- a counter that is usable or spent is from one to spent
pub counter_fits : (counter : ℕ) → UsableFits → IsUsable counter ⊎ (counter ≡ spent_counter) → (1 ≤ counter) × (counter ≤ 2 ^ 21)
counter_fits counter fits (inl usable) = let below = (fits counter usable).0 in (path_above_zero counter usable.path usable.value_is usable.not_the_root, omega (arith, below))
counter_fits counter fits (inr spent) = (omega (arith, spent), omega (arith, spent))

-- a register holds the key of a usable node that is neither a used number nor an ancestor of one
pub record HoldsUnused (used : Used) (initial : List ℕ) (set : RegisterSet) (place : ℕ) : Type 0 where
  pub node : ℕ
  pub usable : IsUsable node
  pub unused : (ksn : Serial) → used ksn → ksn.iksn ≡ set.iksn → ¬ IsAncestorOrSelf node ksn.counter
  pub holds : register_at set.registers place ≡ transaction_key_of initial set.iksn node

-- what is behind registers has an initial key serial number that they remember
pub spent_of : (ksn : Serial) (set : RegisterSet) → IsBehind ksn set → IsSpentIksn ksn.iksn set
spent_of ksn set (inl past) = inr past
spent_of ksn set (inr below) = inl below.0

module _ (rest : Rest) (t : ℕ) (set : RegisterSet) (safe : SetSafe rest t set) where
  -- they stand above every used number
  pub above_used : (ksn : Serial) → rest.used ksn → ksn.iksn ≡ set.iksn → ksn.counter < set.counter
  above_used ksn used same = elim (safe.numbers.behind ksn used (subst (λ (it : ℕ). IsOwner rest.owners it t) (sym same) safe.numbers.owned)) [
    | inl past ↦ absurd (safe.numbers.is_set.iksn_is_not_past (subst (λ (it : ℕ). Contains set.past it) same past))
    | inr below ↦ below.1
  ]

  -- each of them is empty or holds the key of an unused node
  pub each_register : UsableFits → NoneUsed → EachRegister → (place : ℕ) → place < 21 → (register_at set.registers place ≡ empty_register) ⊎ HoldsUnused rest.used safe.keys.initial set place
  each_register fits unused each place within =
      let counter = counter_fits set.counter fits safe.numbers.is_set.counter_is in
      elim (each safe.keys.initial set place counter.0 safe.keys.future_keys within) [
        | inl empty ↦ inl empty
        | inr held ↦
            inr (record {
              node = held.node;
              usable = held.is_in_frontier.is_usable;
              unused = λ ksn used same. unused set.counter held.node ksn.counter counter.1 held.is_in_frontier (above_used ksn used same);
              holds = held.holds;
            })
      ]

  found_again : RegisterLaws → IsFoundAgain set
  found_again laws = laws.of_key safe.keys.initial set safe.keys.initial_is.is_key safe.numbers.is_set safe.keys.future_keys

-- ---- images

-- the first byte of the image in the body of registers is 2
first_is_2 : (set : RegisterSet) → slice_index (image_in (body_bytes set)) 0 ≡ 2
first_is_2 set = refl

-- an image whose first byte is 2 is of version 2
of_version_2 : (image : List ℕ) → slice_index image 0 ≡ 2 → IsImage image → IsImageOfVersion2 image
of_version_2 image two is = elim is [
  | inl one ↦ absurd (omega (arith, two, ap (λ bytes. slice_index bytes 0) one.bytes_are))
  | inr other ↦ other
]

module _ (laws : RegisterLaws) (rest : Rest) (t : ℕ) (body : List ℕ) (safe : BodyHas (RegistersSafe rest t) body) where
  pub is_body : IsTerminalBody body
  is_body = (found_again rest t (set_of_body body) safe.holds laws).is_body body (inl safe.own)

  pub has_version_2 : IsImageOfVersion2 (image_in body)
  has_version_2 = of_version_2 (image_in body) (subst (λ (it : List ℕ). slice_index (image_in it) 0 ≡ 2) (sym safe.own) (first_is_2 (set_of_body body))) is_body.image
