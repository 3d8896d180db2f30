-- The lines of things, written one after the other.
use Rattle.std.proofs.Common.{◌≡◌, ◌+◌, ◌<◌, ◌≤◌, ◌++◌, ◌∷◌, [], ℕ, zero, suc, List, length, take, drop, get_or, refl, sym, ap, subst, ◌∙◌, arith, append-nil, append_assoc, length-append, Result, Ok, Err, OnErr}
use Rattle.std.specs.List.{flat_map}
use Rattle.std.proofs.lemmas.Grind.{flat_map-append}
use Rattle.std.proofs.lemmas.List.{take-append-drop, take-append-le}
use Rattle.duk_io.specs.Known.{Known}
use Rattle.duk_io.specs.Sink.{IsCut, IsWritten}

-- a list up to a place, what stands there, and the rest
split_at : {A : Type 0} (things : List A) (place : ℕ) (thing : A) → place < length things → thing ≡ get_or things place thing
    → take (place + 1) things ≡ take place things ++ thing ∷ []
split_at [] place thing within is = absurd (omega (arith, within))
split_at (first ∷ things) zero thing within is = grind (arith, is)
split_at (first ∷ things) (suc place) thing within is = grind (arith, is, split_at things place thing (omega (arith, within)))

take_all : {A : Type 0} (things : List A) (place : ℕ) → length things ≤ place → take place things ≡ things
take_all [] zero within = refl
take_all [] (suc place) within = refl
take_all (first ∷ things) zero within = absurd (omega (arith, within))
take_all (first ∷ things) (suc place) within = ap (λ rest. first ∷ rest) (take_all things place (omega (arith, within)))

pub cut_longer : (a c : Known) (text rest : List ℕ) → IsCut a c text → IsCut a c (text ++ rest)
cut_longer a c text rest (count, cut) = (
  count,
  record {
    short = omega (arith, cut.short, length-append text rest);
    bytes = rw (take-append-le count text rest (omega (arith, cut.short))) cut.bytes;
    failed = cut.failed;
  },
)

module _ {A : Type 0} (line_of : A → List ℕ) where
  lines_next : (things : List A) (place : ℕ) (thing : A) → place < length things → thing ≡ get_or things place thing
      → flat_map line_of (take (place + 1) things) ≡ flat_map line_of (take place things) ++ line_of thing
  lines_next things place thing within is =
      ap (flat_map line_of) (split_at things place thing within is)
      ∙ flat_map-append line_of (take place things) (thing ∷ [])
      ∙ ap (λ line. flat_map line_of (take place things) ++ line) (append-nil (line_of thing))

  -- one line more is held, after what is left of those before
  pub lines_more : (things : List A) (place : ℕ) (thing : A) (written held front left pushed : List ℕ)
      → place < length things → thing ≡ get_or things place thing
      → flat_map line_of (take place things) ≡ written ++ held → held ≡ front ++ left → pushed ≡ left ++ line_of thing
      → flat_map line_of (take (place + 1) things) ≡ (written ++ front) ++ pushed
  lines_more things place thing written held front left pushed within is so_far split more =
      lines_next things place thing within is ∙ rw (so_far, split, more) (simp append_assoc)

  -- the writing is cut off in the lines up to a thing
  pub cut_among : (a b : Known) (things : List A) (place : ℕ) (text : List ℕ)
      → flat_map line_of (take place things) ≡ text → IsCut a b text → IsCut a b (flat_map line_of things)
  cut_among a b things place text is cut =
      subst (λ all. IsCut a b (flat_map line_of all)) (take-append-drop place things)
      (subst (λ text. IsCut a b text) (sym (flat_map-append line_of (take place things) (drop place things)))
      (cut_longer a b (flat_map line_of (take place things)) (flat_map line_of (drop place things)) (subst (λ text. IsCut a b text) (sym is) cut)))

  -- every line is written
  pub written_all : (a b : Known) (things : List A) (place : ℕ) (text : List ℕ) → length things ≤ place
      → flat_map line_of (take place things) ≡ text → IsWritten a b text → IsWritten a b (flat_map line_of things)
  written_all a b things place text within is written =
      subst (λ text. IsWritten a b text) (sym is ∙ ap (flat_map line_of) (take_all things place within)) written

-- what holds in any case holds where a write failed
pub as_err : {T E : Type 0} (result : Result T E) (P : Type 0) → P → OnErr result P
as_err (Ok x) P holds = tt
as_err (Err e) P holds = holds

-- what follows where a write failed
pub on_err : {T E : Type 0} (P Q : Type 0) → (P → Q) → (result : Result T E) → OnErr result P → OnErr result Q
on_err P Q follows (Ok x) holds = holds
on_err P Q follows (Err e) holds = follows holds
