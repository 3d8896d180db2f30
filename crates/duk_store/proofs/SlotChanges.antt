-- What each write of a cell does to its slots.
use Rattle.std.proofs.Common.{◌≡◌, inl, inr, ℕ, ◌+◌, List, [], ◌∷◌, Bool, true, false, length, replicate, sym, ◌∙◌, subst, arith}
use Rattle.duk_store.specs.Disk.{DiffersWithin, DiskState, written}
use Rattle.duk_store.specs.SlotFormat.{IsOpen, after_commit, commit_of, slot_at}
use Rattle.duk_store.specs.inner.SlotFormat.{contents_of, commit_place}
use Rattle.duk_store.specs.inner.SlotSteps.{Change, ChangesAt, IsCleared, IsClosed, IsEmptied, IsFilled, IsPartlyCleared, IsPartlyClosed, IsPartlyFilled, IsPartlyWiped, IsWiped, KnowsCommit}
use Rattle.duk_store.specs.declared.slot_format.Place.{Place}
use Rattle.duk_store.proofs.SlotBytes.{torn_after, torn_commit, written_after, written_commit}

-- a slot that changes so changes in another way, too
pub changes_as : (place : Place) (one other : Change) (x y : List ℕ) → ((a b : List ℕ) → one a b → other a b) → ChangesAt place one x y → ChangesAt place other x y
changes_as place one other x y follows changes = record { this = follows _ _ changes.this; beside = changes.beside }

-- one change of a slot after another
pub changes_then : (place : Place) (one two both : Change) (x y z : List ℕ) → ((a b c : List ℕ) → one a b → two b c → both a c) → ChangesAt place one x y → ChangesAt place two y z → ChangesAt place both x z
changes_then place one two both x y z joins first second = record { this = joins _ _ _ first.this second.this; beside = second.beside ∙ first.beside }

module _ (place : Place) (at : ℕ) (at_is : at ≡ commit_place place) (a b : List ℕ) where
  -- a byte written to a commit byte
  pub commit_is : (value : ℕ) → length a ≡ 1024 → b ≡ written a at (value ∷ []) → ChangesAt place (λ before after. (commit_of after ≡ value) × (after_commit after ≡ after_commit before)) a b
  commit_is value size is = rw (is, at_is) (written_commit place a value size)

  pub is_closed : length a ≡ 1024 → b ≡ written a at (0 ∷ []) → ChangesAt place IsClosed a b
  is_closed size is = changes_as place _ IsClosed a b (λ s t new. record { commit = new.0; contents = new.1 }) (commit_is 0 size is)

  -- a torn write of a commit byte
  pub is_partly_closed : DiffersWithin at 1 a b → ChangesAt place IsPartlyClosed a b
  is_partly_closed torn = torn_commit place a b (rw at_is at torn)

  -- bytes written after a commit byte
  pub contents_are : (bytes : List ℕ) → length bytes ≡ 511 → length a ≡ 1024 → b ≡ written a (at + 1) bytes
      → ChangesAt place (λ before after. (commit_of after ≡ commit_of before) × (after_commit after ≡ bytes)) a b
  contents_are bytes whole size is = rw (is, at_is) (written_after a bytes size whole place)

  pub is_wiped : (bytes : List ℕ) → bytes ≡ replicate 511 0 → length bytes ≡ 511 → length a ≡ 1024 → b ≡ written a (at + 1) bytes → ChangesAt place IsWiped a b
  is_wiped bytes zeros whole size is = changes_as place _ IsWiped a b (λ s t new. record { commit = new.0; zeros = new.1 ∙ zeros }) (contents_are bytes whole size is)

  -- a torn write after a commit byte
  pub is_partly_wiped : (count : ℕ) → count ≡ 511 → DiffersWithin (at + 1) count a b → ChangesAt place IsPartlyWiped a b
  is_partly_wiped count whole torn = torn_after place a b (rw (at_is, whole) at torn)

-- a slot with new contents is opened, or its commit byte is torn
pub filled : (place : Place) (sequence : ℕ) (body bytes x y z : List ℕ) → bytes ≡ contents_of sequence body
    → ChangesAt place (λ before after. (commit_of after ≡ commit_of before) × (after_commit after ≡ bytes)) x y
    → ChangesAt place (λ before after. (commit_of after ≡ 1) × (after_commit after ≡ after_commit before)) y z
    → ChangesAt place (IsFilled sequence body) x z
filled place sequence body bytes x y z is first second =
    changes_then place _ _ (IsFilled sequence body) x y z (λ a b c new opened. record { is_open = opened.0; contents = opened.1 ∙ new.1 ∙ is }) first second

pub partly_filled : (place : Place) (sequence : ℕ) (body bytes x y z : List ℕ) → bytes ≡ contents_of sequence body
    → ChangesAt place (λ before after. (commit_of after ≡ commit_of before) × (after_commit after ≡ bytes)) x y
    → ChangesAt place IsPartlyClosed y z → ChangesAt place (IsPartlyFilled sequence body) x z
partly_filled place sequence body bytes x y z is first second =
    changes_then place _ _ (IsPartlyFilled sequence body) x y z (λ a b c new torn. inr (torn ∙ new.1 ∙ is)) first second

pub not_filled : (place : Place) (sequence : ℕ) (body x y : List ℕ) → ChangesAt place IsPartlyWiped x y → ChangesAt place (IsPartlyFilled sequence body) x y
not_filled place sequence body x y changes = changes_as place _ (IsPartlyFilled sequence body) x y (λ a b same. inl same) changes

-- a slot of which it is known whether it is open is cleared
module _ (place : Place) (is_open : Bool) (disk : DiskState) (a b : List ℕ) (knows : KnowsCommit place is_open disk) where
  pub emptied_is_cleared : is_open ≡ true → disk.may_leave a → ChangesAt place IsEmptied a b → ChangesAt place IsCleared a b
  emptied_is_cleared it_is left changes =
      let reads : a ≡ disk.reads = (knows.leaves a).0 left in
      let before : IsOpen (slot_at place a) = subst (λ bytes. IsOpen (slot_at place bytes)) (sym reads) (knows.commit.0 it_is) in
      record {
        this = record {
          blank = record { closed = λ after. omega (arith, after, changes.this.commit); zeros = changes.this.zeros };
          commit = λ closed. absurd (closed before);
        };
        beside = changes.beside;
      }

  was_closed : is_open ≡ false → disk.may_leave a → ¬ IsOpen (slot_at place a)
  was_closed it_is left before =
      let reads : a ≡ disk.reads = (knows.leaves a).0 left in
      let true_is : is_open ≡ true = knows.commit.1 (subst (λ bytes. IsOpen (slot_at place bytes)) reads before) in
      cc (it_is, true_is)

  pub wiped_is_cleared : is_open ≡ false → disk.may_leave a → ChangesAt place IsWiped a b → ChangesAt place IsCleared a b
  wiped_is_cleared it_is left changes =
      let closed = was_closed it_is left in
      record {
        this = record {
          blank = record { closed = λ after. closed (sym changes.this.commit ∙ after); zeros = changes.this.zeros };
          commit = λ before. changes.this.commit;
        };
        beside = changes.beside;
      }

  pub partly_wiped_is_cleared : is_open ≡ false → disk.may_leave a → ChangesAt place IsPartlyWiped a b → ChangesAt place IsPartlyCleared a b
  partly_wiped_is_cleared it_is left changes =
      let closed = was_closed it_is left in
      record { this = inr ((λ after. closed (sym changes.this ∙ after)), (λ before. changes.this)); beside = changes.beside }
