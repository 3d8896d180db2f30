-- A step of the key schedule after the steps before it.
use Rattle.std.proofs.Common.{◌≡◌, ℕ, zero, suc, ◌+◌, ◌<◌, ◌≤◌, Bool, List, [], ◌∷◌, ◌++◌, length, take, drop, get_or, set, IsTrue, nat_le, refl, sym, ap, ◌∙◌, append_assoc, arith}
use Rattle.std.specs.List.{list_all}
use Rattle.std.proofs.lemmas.Bool.Decides.{nat_tests}
use Rattle.std.proofs.lemmas.List.{drop_more, drop_all, take_all, take_more_set, append-nil}
use Rattle.duk_des.specs.Bits.{permute}
use Rattle.duk_des.specs.Des.{rotate, schedule}
use Rattle.duk_des.specs.Tables.{round_key_places, rotations}
use Rattle.duk_des.proofs.SideBySide.{consed}

-- the schedule of the rotations that are left is the first round key, and the schedule of those
-- after it
scheduled : (count : ℕ) (counts : List ℕ) (c d : List Bool) {next_c next_d key : List Bool}
    → next_c ≡ rotate count c → next_d ≡ rotate count d → key ≡ permute round_key_places (next_c ++ next_d)
    → key ∷ schedule counts next_c next_d ≡ schedule (count ∷ counts) c d
unfolding schedule
scheduled count counts c d {next_c} {next_d} {key} by_c by_d by_key =
    consed by_key refl
    ∙ ap (λ half. permute round_key_places (half ++ next_d) ∷ schedule counts half next_d) by_c
    ∙ ap (λ half. permute round_key_places (rotate count c ++ half) ∷ schedule counts (rotate count c) half) by_d

-- with one more round key in its place, the round keys are still those in their places and the
-- schedule of what is left
pub one_more : (counts : List ℕ) (i : ℕ) (keys : List (List Bool)) (c d : List Bool) {next_c next_d key : List Bool} → i < length counts → i < length keys
    → next_c ≡ rotate (get_or counts i 0) c → next_d ≡ rotate (get_or counts i 0) d → key ≡ permute round_key_places (next_c ++ next_d)
    → take (i + 1) (set keys i key) ++ schedule (drop (i + 1) counts) next_c next_d ≡ take i keys ++ schedule (drop i counts) c d
one_more counts i keys c d {next_c} {next_d} {key} within room by_c by_d by_key =
    let rest = schedule (drop (i + 1) counts) next_c next_d in
    ap (λ front. front ++ rest) (take_more_set keys i key room)
    ∙ append_assoc (take i keys) (key ∷ []) rest
    ∙ ap (λ later. take i keys ++ later)
    (scheduled (get_or counts i 0) (drop (i + 1) counts) c d by_c by_d by_key ∙ sym (ap (λ order. schedule order c d) (drop_more counts i 0 within)))

-- at the end the round keys are those in their places
pub no_more : (counts : List ℕ) (i : ℕ) (keys : List (List Bool)) (c d : List Bool) → length counts ≤ i → length keys ≤ i
    → take i keys ++ schedule (drop i counts) c d ≡ keys
unfolding schedule
no_more counts i keys c d short full =
    ap (λ front. front ++ schedule (drop i counts) c d) (take_all i keys full)
    ∙ ap (λ order. keys ++ schedule order c d) (drop_all i counts short)
    ∙ append-nil keys

-- each rotation is by one place or two
each_fits : (counts : List ℕ) → IsTrue (list_all (λ count. nat_le count 2) counts) → (i : ℕ) → get_or counts i 0 ≤ 2
each_fits [] h i = omega arith
each_fits (count ∷ counts) h zero = grind (arith, nat_tests)
each_fits (count ∷ counts) h (suc i) = each_fits counts (grind (arith, nat_tests)) i

pub rotation_fits : (i : ℕ) → get_or rotations i 0 ≤ 2
rotation_fits i = each_fits rotations refl i

-- a round key, and those of the rotations after it
pub one_key : (count : ℕ) (counts : List ℕ) (c d : List Bool) {next_c next_d key : List Bool} {keys : List (List Bool)}
    → next_c ≡ rotate count c → next_d ≡ rotate count d → key ≡ permute round_key_places (next_c ++ next_d)
    → keys ≡ schedule counts next_c next_d → key ∷ keys ≡ schedule (count ∷ counts) c d
one_key count counts c d {next_c} {next_d} {key} {keys} by_c by_d by_key by_keys = ap (λ later. key ∷ later) by_keys ∙ scheduled count counts c d by_c by_d by_key

pub no_key : (c d : List Bool) → [] ≡ schedule [] c d
unfolding schedule
no_key c d = refl
