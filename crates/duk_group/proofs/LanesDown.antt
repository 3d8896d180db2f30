-- One lane's key, one turn further down the path of its counter.
use Rattle.std.proofs.Common.{◌≡◌, ◌<◌, ◌≤◌, ◌+◌, ℕ, Bool, true, false, List, refl, sym, ap, ap₂, subst, ◌∙◌, arith}
use Rattle.duk_des.specs.Block.{IsBlock}
use Rattle.duk_tree.specs.Derivation.{step_of, node_key, transaction_key_of}
use Rattle.duk_tree.specs.Serial.{Serial, low_bytes}
use Rattle.duk_group.specs.declared.turns.Turn.{Turn}
use Rattle.duk_group.specs.inner.Walk.{ones_from, GoesOn, Stays, IsNext}
use Rattle.duk_group.proofs.PathsDown.{ones_from-all}

-- the key of the node to which a lane has gone down that stands at this place
pub record HasKey (initial : List ℕ) (number : Serial) (place : ℕ) (key : List ℕ) : Type 0 where
  pub is : key ≡ node_key initial number.iksn (ones_from place number.counter)

module _ (initial : List ℕ) (number : Serial) (before place : ℕ) (turn : Turn) where
  gone_down : (key : List ℕ) → GoesOn number before place turn → HasKey initial number before key → HasKey initial number place (step_of key turn.block)
  gone_down key next known = record {
    is =
        ap₂ (λ (key register : List ℕ). step_of key register) known.is next.register
        ∙ sym (ap (node_key initial number.iksn) next.path);
  }

  stayed : (key : List ℕ) → Stays number before place → HasKey initial number before key → HasKey initial number place key
  stayed key last known = record {
    is =
        known.is
        ∙ ap (node_key initial number.iksn) (sym last.path)
        ∙ ap (λ place. node_key initial number.iksn (ones_from place number.counter)) (sym last.ended);
  }

  -- the key that a turn leaves: the child's where the lane goes on, and else the one that was there
  pub key_after : (goes : Bool) (key child new : List ℕ) → turn.goes ≡ goes → IsNext number before place turn → HasKey initial number before key
      → ((serial : Serial) → IsBlock (low_bytes serial))
      → (IsBlock turn.block → child ≡ step_of key turn.block)
      → (turn.goes ≡ true → new ≡ child)
      → (turn.goes ≡ false → new ≡ key)
      → HasKey initial number place new
  key_after true key child new is next known blocks stepped taken kept =
      let found : GoesOn number before place turn = next.goes is in
      let P : List ℕ → Type 0 = IsBlock in
      let is_block : IsBlock turn.block = subst P (sym found.register) (blocks _) in
      record { is = taken is ∙ stepped is_block ∙ (gone_down key found known).is }
  key_after false key child new is next known blocks stepped taken kept =
      record { is = kept is ∙ (stayed key (next.stays is) known).is }

  pub place_after : (goes : Bool) (count : ℕ) → turn.goes ≡ goes → IsNext number before place turn → count < 21 → before + count ≤ 21 → place + (count + 1) ≤ 21
  place_after true count is next more within = omega (arith, (next.goes is).falls)
  place_after false count is next more within = omega (arith, (next.stays is).ended)

  -- the key of a lane that has come to its end
  pub key_at_end : (key : List ℕ) → Stays number before place → HasKey initial number before key → key ≡ transaction_key_of initial number.iksn number.counter
  key_at_end key last known = known.is ∙ ap (node_key initial number.iksn) (sym last.path ∙ ones_from-all number.counter)

pub key_at_zero : (initial : List ℕ) (number : Serial) (place : ℕ) (key : List ℕ) → place ≡ 0 → HasKey initial number place key → key ≡ transaction_key_of initial number.iksn number.counter
key_at_zero initial number place key zero known =
    known.is ∙ ap (λ place. node_key initial number.iksn (ones_from place number.counter)) zero ∙ ap (node_key initial number.iksn) (ones_from-all number.counter)

-- the root has the initial key
pub key_at_root : (initial : List ℕ) (number : Serial) → HasKey initial number 21 initial
key_at_root initial number = record { is = refl }
