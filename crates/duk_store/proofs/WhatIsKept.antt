-- What the bytes of a cell's disk keep, while its slots change.
use Rattle.std.proofs.Common.{◌≡◌, ◌⊎◌, ◌↔◌, inl, inr, ℕ, ◌<◌, ◌^◌, List, Some, None, drop, refl, sym, ◌∙◌, ap, subst, arith}
use Rattle.std.proofs.lemmas.Bool.{cases_eq}
use Rattle.std.proofs.lemmas.List.{drop_at}
use Rattle.byteorder.specs.Endian.{big_bytes, big_number}
use Rattle.byteorder.specs.Numbers.{big_number-reads_back}
use Rattle.duk_store.specs.Cell.{Kept}
use Rattle.duk_store.specs.SlotCell.{IsRestored}
use Rattle.duk_store.specs.inner.SlotCell.{KeepsOldOrNew}
use Rattle.duk_store.specs.SlotFormat.{Counts, HoldsAlone, IsOpen, KeepsBody, after_commit, body_of, commit_of, other_than, sequence_of, slot_at}
use Rattle.duk_store.specs.inner.SlotFormat.{IsEmpty, contents_of}
use Rattle.duk_store.specs.inner.SlotSteps.{BothCommitsStay, ChangesAt, IsCleared, IsEmptied, IsFilled, IsPartlyCleared, IsPartlyEmptied, IsPartlyFilled, IsWipedBoth}
use Rattle.duk_store.specs.declared.slot_format.Place.{Place}
use Rattle.duk_store.specs.declared.slot_format.Place.TheVariants.{First, Second}

-- two places are the same, or each is that of the other slot
beside_or_same : (place at : Place) → (at ≡ place) ⊎ (at ≡ other_than place)
beside_or_same First First = inl refl
beside_or_same First Second = inr refl
beside_or_same Second First = inr refl
beside_or_same Second Second = inl refl

pub other_twice : (place : Place) → other_than (other_than place) ≡ place
other_twice First = refl
other_twice Second = refl

-- two slots that each count beside the other are one
counts_once : (slot beside : List ℕ) → Counts slot beside → Counts beside slot → ⊥
counts_once slot beside one two = omega (arith, one.newer two.is_open, two.newer one.is_open)

-- bytes keep one thing at most
pub kept_once : (bytes : List ℕ) (one two : Kept) → KeepsBody bytes one → KeepsBody bytes two → one ≡ two
kept_once bytes None None first second = refl
kept_once bytes None (Some body) first second = absurd (first second.0 second.1.is_open)
kept_once bytes (Some body) None first second = absurd (second first.0 first.1.is_open)
kept_once bytes (Some one) (Some two) (First, counts, is) (First, counts', is') = ap Some (is ∙ sym is')
kept_once bytes (Some one) (Some two) (Second, counts, is) (Second, counts', is') = ap Some (is ∙ sym is')
kept_once bytes (Some one) (Some two) (First, counts, is) (Second, counts', is') = absurd (counts_once (slot_at First bytes) (slot_at Second bytes) counts counts')
kept_once bytes (Some one) (Some two) (Second, counts, is) (First, counts', is') = absurd (counts_once (slot_at Second bytes) (slot_at First bytes) counts counts')

-- what one thing is kept in, and another, is kept in both
pub same_kept : (x y : List ℕ) (kept : Kept) → KeepsBody x kept → KeepsBody y kept → (other : Kept) → KeepsBody x other ↔ KeepsBody y other
same_kept x y kept first second other = (
  (λ keeps. subst (λ kept. KeepsBody y kept) (kept_once x kept other first keeps) second),
  (λ keeps. subst (λ kept. KeepsBody x kept) (kept_once y kept other second keeps) first),
)

-- where one slot is closed before and after, and the other stays, so does what is kept
pub closed_slot : (place : Place) (x y : List ℕ) (kept : Kept) → ¬ IsOpen (slot_at place x) → ¬ IsOpen (slot_at place y) → slot_at (other_than place) y ≡ slot_at (other_than place) x → KeepsBody x kept → KeepsBody y kept
closed_slot First x y None before after same none = λ place. both place
  where
    both : (place : Place) → ¬ IsOpen (slot_at place y)
    both First = after
    both Second = rw same (none Second)
closed_slot Second x y None before after same none = λ place. both place
  where
    both : (place : Place) → ¬ IsOpen (slot_at place y)
    both First = rw same (none First)
    both Second = after
closed_slot First x y (Some body) before after same (First, counts, is) = absurd (before counts.is_open)
closed_slot First x y (Some body) before after same (Second, counts, is) = (Second, record { is_open = rw same counts.is_open; newer = λ is_open. absurd (after is_open) }, is ∙ ap body_of (sym same))
closed_slot Second x y (Some body) before after same (Second, counts, is) = absurd (before counts.is_open)
closed_slot Second x y (Some body) before after same (First, counts, is) = (First, record { is_open = rw same counts.is_open; newer = λ is_open. absurd (after is_open) }, is ∙ ap body_of (sym same))

-- contents, read back
pub sequence_in : (sequence : ℕ) (body slot : List ℕ) → sequence < 2 ^ 64 → after_commit slot ≡ contents_of sequence body → sequence_of slot ≡ sequence
sequence_in sequence body slot fits is = ap (big_number 8) is ∙ big_number-reads_back 8 sequence body fits

pub body_in : (sequence : ℕ) (body slot : List ℕ) → after_commit slot ≡ contents_of sequence body → body_of slot ≡ body
body_in sequence body slot is = ap (drop 8) is ∙ drop_at (big_bytes 8 sequence) body 8 refl

-- a slot that was filled leads: it has the new body, and the other one is of smaller sequence
pub record Leads (place : Place) (sequence : ℕ) (body bytes : List ℕ) : Type 0 where
  is_open : IsOpen (slot_at place bytes)
  sequence_is : sequence_of (slot_at place bytes) ≡ sequence
  body_is : body_of (slot_at place bytes) ≡ body
  older : sequence_of (slot_at (other_than place) bytes) < sequence

-- what leads is kept
pub leads_keeps : (place : Place) (sequence : ℕ) (body bytes : List ℕ) → Leads place sequence body bytes → KeepsBody bytes (Some body)
leads_keeps place sequence body bytes leads = (
  place,
  record { is_open = leads.is_open; newer = λ is_open. omega (arith, leads.older, leads.sequence_is) },
  sym leads.body_is,
)

module _ (place : Place) (sequence : ℕ) (body : List ℕ) (fits : sequence < 2 ^ 64) (x y : List ℕ) (closed : ¬ IsOpen (slot_at place x)) (older : sequence_of (slot_at (other_than place) x) < sequence) where
  pub filled_leads : ChangesAt place (IsFilled sequence body) x y → Leads place sequence body y
  filled_leads changes = record {
    is_open = changes.this.is_open;
    sequence_is = sequence_in sequence body (slot_at place y) fits changes.this.contents;
    body_is = body_in sequence body (slot_at place y) changes.this.contents;
    older = rw changes.beside older;
  }

  -- a slot that is filled in part has no effect yet, or leads
  pub torn_fill : ChangesAt place (IsPartlyFilled sequence body) x y → KeepsOldOrNew body x y
  torn_fill changes = elim (cases_eq (commit_of (slot_at place y)) 1) [
    | inl is_open ↦ elim changes.this [
      | inl same ↦ absurd (closed (sym same ∙ is_open))
      | inr contents ↦ inr (leads_keeps place sequence body y (record {
        is_open = is_open;
        sequence_is = sequence_in sequence body (slot_at place y) fits contents;
        body_is = body_in sequence body (slot_at place y) contents;
        older = rw changes.beside older;
      }))
    ]
    | inr after ↦ inl (λ kept keeps. closed_slot place x y kept closed after changes.beside keeps)
  ]

module _ (place : Place) (sequence : ℕ) (body x y : List ℕ) (leads : Leads place sequence body x) where
  -- while the other slot is emptied, the new body is kept
  pub torn_empty : ChangesAt (other_than place) IsPartlyEmptied x y → KeepsBody y (Some body)
  torn_empty changes =
      let stays : slot_at place y ≡ slot_at place x = subst (λ at. slot_at at y ≡ slot_at at x) (other_twice place) changes.beside in (
        place,
        record { is_open = rw stays leads.is_open; newer = λ is_open. older stays is_open changes.this },
        sym (ap body_of stays ∙ leads.body_is),
      )
    where
      older : slot_at place y ≡ slot_at place x → IsOpen (slot_at (other_than place) y) → IsPartlyEmptied (slot_at (other_than place) x) (slot_at (other_than place) y)
          → sequence_of (slot_at (other_than place) y) < sequence_of (slot_at place y)
      older stays is_open (inl same) = omega (arith, leads.older, leads.sequence_is, ap sequence_of stays, ap (big_number 8) same)
      older stays is_open (inr closed) = absurd (omega (arith, is_open, closed))

  -- and it is alone once that is done
  pub emptied_alone : ChangesAt (other_than place) IsEmptied x y → HoldsAlone place sequence body y
  emptied_alone changes =
      let stays : slot_at place y ≡ slot_at place x = subst (λ at. slot_at at y ≡ slot_at at x) (other_twice place) changes.beside in
      record {
        is_open = rw stays leads.is_open;
        sequence_is = ap sequence_of stays ∙ leads.sequence_is;
        body_is = ap body_of stays ∙ leads.body_is;
        other_blank = record { closed = λ is_open. omega (arith, is_open, changes.this.commit); zeros = changes.this.zeros };
      }

-- one body alone is kept
pub alone_keeps : (place : Place) (sequence : ℕ) (body bytes : List ℕ) → HoldsAlone place sequence body bytes → KeepsBody bytes (Some body)
alone_keeps place sequence body bytes alone = (
  place,
  record { is_open = alone.is_open; newer = λ is_open. absurd (alone.other_blank.closed is_open) },
  sym alone.body_is,
)

-- a disk on which both slots are closed, and whose commit bytes stay, keeps nothing
pub both_closed : (x y : List ℕ) → KeepsBody x None → BothCommitsStay x y → IsRestored x y
both_closed x y none stay = record {
  keeps = same_kept x y None none (λ place is_open. none place (sym (stay place) ∙ is_open));
  commits = λ place closed. stay place;
}

pub both_empty : (x y : List ℕ) → KeepsBody x None → IsWipedBoth x y → IsEmpty y
both_empty x y none wiped = λ place. record { closed = λ is_open. none place (sym (wiped.commits place) ∙ is_open); zeros = wiped.zeros place }

-- the slot that counts stays while the other one is cleared
module _ (place : Place) (x y : List ℕ) (counts : Counts (slot_at place x) (slot_at (other_than place) x)) where
  stays_at : (change : List ℕ → List ℕ → Type 0) → ChangesAt (other_than place) change x y → slot_at place y ≡ slot_at place x
  stays_at change changes = subst (λ at. slot_at at y ≡ slot_at at x) (other_twice place) changes.beside

  keeps_before : KeepsBody x (Some (body_of (slot_at place x)))
  keeps_before = (place, counts, refl)

  pub torn_clear : ChangesAt (other_than place) IsPartlyCleared x y → IsRestored x y
  torn_clear changes = record { keeps = same_kept x y (Some (body_of (slot_at place x))) keeps_before keeps_after; commits = commits }
    where
      stays : slot_at place y ≡ slot_at place x
      stays = stays_at IsPartlyCleared changes

      newer : IsPartlyCleared (slot_at (other_than place) x) (slot_at (other_than place) y) → IsOpen (slot_at (other_than place) y)
          → sequence_of (slot_at (other_than place) y) < sequence_of (slot_at place y)
      newer (inl torn) is_open = omega (arith, counts.newer torn.0, ap sequence_of stays, ap (big_number 8) torn.1)
      newer (inr closed) is_open = absurd (closed.0 is_open)

      keeps_after : KeepsBody y (Some (body_of (slot_at place x)))
      keeps_after = (place, record { is_open = rw stays counts.is_open; newer = newer changes.this }, ap body_of (sym stays))

      commit_beside : IsPartlyCleared (slot_at (other_than place) x) (slot_at (other_than place) y) → ¬ IsOpen (slot_at (other_than place) x) → commit_of (slot_at (other_than place) y) ≡ commit_of (slot_at (other_than place) x)
      commit_beside (inl torn) closed = absurd (closed torn.0)
      commit_beside (inr after) closed = after.1 closed

      commits : (at : Place) → ¬ IsOpen (slot_at at x) → commit_of (slot_at at y) ≡ commit_of (slot_at at x)
      commits at closed = elim (beside_or_same place at) [
        | inl same ↦ subst (λ at. commit_of (slot_at at y) ≡ commit_of (slot_at at x)) (sym same) (ap commit_of stays)
        | inr beside ↦ subst (λ at. ¬ IsOpen (slot_at at x) → commit_of (slot_at at y) ≡ commit_of (slot_at at x)) (sym beside) (commit_beside changes.this) closed
      ]

  -- a slot that is cleared is cleared in part
  cleared_in_part : ChangesAt (other_than place) IsCleared x y → ChangesAt (other_than place) IsPartlyCleared x y
  cleared_in_part changes = record { this = inr (changes.this.blank.closed, changes.this.commit); beside = changes.beside }

  pub cleared : ChangesAt (other_than place) IsCleared x y → IsRestored x y
  cleared changes = torn_clear (cleared_in_part changes)

  pub cleared_alone : ChangesAt (other_than place) IsCleared x y → HoldsAlone place (sequence_of (slot_at place x)) (body_of (slot_at place x)) y
  cleared_alone changes =
      let stays = stays_at IsCleared changes in
      record {
        is_open = rw stays counts.is_open;
        sequence_is = ap sequence_of stays;
        body_is = ap body_of stays;
        other_blank = changes.this.blank;
      }
