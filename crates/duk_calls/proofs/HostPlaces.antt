-- Lists in a relation, frames at their places, and cards one after the other.
use Rattle.std.proofs.Common.{◌≡◌, ◌≢◌, ◌<◌, ◌+◌, ◌++◌, ◌∷◌, ◌∙◌, ℕ, zero, suc, List, [], None, Option, Some, arith, get_or, inl, inr, length, length-append, refl, subst}
use Rattle.std.specs.Option.{IsSome}
use Rattle.std.proofs.lemmas.Bool.{cases_lt, false≢true}
use Rattle.std.proofs.lemmas.List.{get_or-append-add, get_or_append_left}
use Rattle.std.proofs.lemmas.Slice.Eq.{bytes_eq-Decides}
use Rattle.duk_host.specs.Table.{card_of}
use Rattle.duk_hsm.specs.Commands.{HasTransactionKey}
use Rattle.duk_hsm.specs.Keys.{HsmKeys, key_set_of}
use Rattle.duk_journal_host.specs.Candidate.{ArePaired}
use Rattle.duk_tree.specs.Derivation.{derived_key_of}
use Rattle.duk_tree.specs.Path.{IsUsable}
use Rattle.duk_tree.specs.Serial.{Serial, prefix_of}
use Rattle.duk_calls.specs.Answer.{part_at}
use Rattle.duk_calls.specs.Hosts.{card_in, cards_from}
use Rattle.duk_calls.specs.Requests.{front_frame}
use Rattle.duk_calls.specs.inner.Hosts.{frames_at}

-- there are as many of both
pub as_many_paired : {A B : Type 0} (related : A → B → Type 0) (ones : List A) (others : List B) → ArePaired related ones others → length others ≡ length ones
as_many_paired related [] [] are = omega arith
as_many_paired related [] (next ∷ others) are = absurd are
as_many_paired related (first ∷ ones) [] are = absurd are
as_many_paired related (first ∷ ones) (next ∷ others) are = omega (arith, as_many_paired related ones others are.1)

-- those at one place
pub paired_at : {A B : Type 0} (related : A → B → Type 0) (ones : List A) (others : List B) (place : ℕ) (one : A) (other : B)
    → ArePaired related ones others → place < length ones → related (get_or ones place one) (get_or others place other)
paired_at related [] [] place one other are within = absurd (omega (arith, within))
paired_at related [] (next ∷ others) place one other are within = absurd are
paired_at related (first ∷ ones) [] place one other are within = absurd are
paired_at related (first ∷ ones) (next ∷ others) zero one other are within = are.0
paired_at related (first ∷ ones) (next ∷ others) (suc place) one other are within = paired_at related ones others place one other are.1 (omega (arith, within))

-- so many frames
pub as_many_frames : (bytes : List ℕ) (count : ℕ) → length (frames_at bytes count) ≡ count
as_many_frames bytes zero = omega arith
as_many_frames bytes (suc count) =
    omega (arith, length-append (frames_at bytes count) (front_frame (part_at 64 bytes count) ∷ []), as_many_frames bytes count)

-- and the frame at a place
pub frame_at : (bytes : List ℕ) (count place : ℕ) → place < count → get_or (frames_at bytes count) place [] ≡ front_frame (part_at 64 bytes place)
frame_at bytes zero place within = absurd (omega (arith, within))
frame_at bytes (suc count) place within =
    let one : List (List ℕ) = front_frame (part_at 64 bytes count) ∷ [] in
    let many = as_many_frames bytes count in
    elim (cases_lt place count) [
      | inl before ↦ get_or_append_left (frames_at bytes count) one [] place (omega (arith, before, many)) ∙ frame_at bytes count place before
      | inr last ↦
          let same : count ≡ place = omega (arith, last, within) in
          subst (λ n. get_or (frames_at bytes count ++ one) n [] ≡ front_frame (part_at 64 bytes n)) same
          (let none : count + 0 ≡ count = omega arith in
          subst (λ n. get_or (frames_at bytes count ++ one) n [] ≡ front_frame (part_at 64 bytes count)) none
          (subst (λ n. get_or (frames_at bytes count ++ one) (n + 0) [] ≡ front_frame (part_at 64 bytes count)) many
          (get_or-append-add (frames_at bytes count) one 0 [])))
    ]

-- the first of the cards has a PAN, or it is looked for among the others
pub first_card : (pan bytes : List ℕ) (place count : ℕ) → (card_in (part_at 37 bytes place)).pan ≡ pan
    → card_of pan (cards_from bytes place (suc count)) ≡ Some (card_in (part_at 37 bytes place))
first_card pan bytes place count same = grind (arith, same, bytes_eq-Decides (card_in (part_at 37 bytes place)).pan pan)

pub other_card : (pan bytes : List ℕ) (place count : ℕ) → (card_in (part_at 37 bytes place)).pan ≢ pan
    → card_of pan (cards_from bytes place (suc count)) ≡ card_of pan (cards_from bytes (suc place) count)
other_card pan bytes place count other = grind (arith, other, bytes_eq-Decides (card_in (part_at 37 bytes place)).pan pan)

-- what is not there, and what is
pub none_of : {A : Type 0} (option : Option A) → ¬ IsSome option → option ≡ None
none_of None not = refl
none_of (Some one) not = absurd (not refl)

some_of : {A : Type 0} (option : Option A) → IsSome option → (one : A) × (option ≡ Some one)
some_of None some = absurd (false≢true some)
some_of (Some one) some = (one, refl)

-- a usable number whose key set is held has a transaction key
pub with_key : (keys : HsmKeys) (ksn : Serial) → IsSome (key_set_of keys (prefix_of ksn)) → IsUsable ksn.counter → HasTransactionKey keys ksn
with_key keys ksn held usable =
    let found = some_of (key_set_of keys (prefix_of ksn)) held in
    (derived_key_of found.0 ksn, record { bdk = found.0; held = found.1; usable = usable; key_is = refl })
