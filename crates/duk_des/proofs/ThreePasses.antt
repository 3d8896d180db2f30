-- Three computations one after the other, on words.
use Rattle.std.proofs.Common.{◌≡◌, ℕ, Bool, List, ◌++◌, take, drop, sym, ap, ◌∙◌}
use Rattle.duk_des.specs.Bits.{permute}
use Rattle.duk_des.specs.Des.{Halves, des_computation, rounds}
use Rattle.duk_des.specs.Tables.{final_places, initial_places}
use Rattle.duk_des.specs.Words.{word_bits}
use Rattle.duk_des.proofs.DecipheringUndoes.{exchanged, finished, split, three_computations}
use Rattle.duk_des.proofs.RoundsOfWords.{halves_of}
use Rattle.duk_des.proofs.SideBySide.{both}

-- the words are halves, where their bits are the left and the right one of these
pub are_halves : (left right : ℕ) (halves : Halves) → word_bits left ≡ halves.left → word_bits right ≡ halves.right → halves_of left right ≡ halves
are_halves left right halves = both (λ left right. let found : Halves = record { left = left; right = right } in found)

-- the final permutation of what the rounds leave, where the halves are exchanged between the first rounds and the second, and between these and the third
pub three_passes_of_halves : (first second third : List (List Bool)) (block : List Bool) (l0 r0 l1 r1 l2 r2 l3 r3 : ℕ)
    → halves_of l0 r0 ≡ split (permute initial_places block)
    → halves_of l1 r1 ≡ rounds first (halves_of l0 r0)
    → halves_of l2 r2 ≡ rounds second (halves_of r1 l1)
    → halves_of l3 r3 ≡ rounds third (halves_of r2 l2)
    → permute final_places (word_bits r3 ++ word_bits l3) ≡ des_computation third (des_computation second (des_computation first block))
three_passes_of_halves first second third block l0 r0 l1 r1 l2 r2 l3 r3 begun passed1 passed2 passed3 =
    let start : Halves = split (permute initial_places block) in
    let one : halves_of l1 r1 ≡ rounds first start = passed1 ∙ ap (rounds first) begun in
    let two : halves_of l2 r2 ≡ rounds second (exchanged (rounds first start)) = passed2 ∙ ap (λ halves. rounds second (exchanged halves)) one in
    let three : halves_of l3 r3 ≡ rounds third (exchanged (rounds second (exchanged (rounds first start)))) =
    passed3 ∙ ap (λ halves. rounds third (exchanged halves)) two in
    ap finished three ∙ sym (three_computations first second third block)

-- the same, where each half is told by itself
pub three_passes : (first second third : List (List Bool)) (block : List Bool) (l0 r0 l1 r1 l2 r2 l3 r3 : ℕ)
    → word_bits l0 ≡ take 32 (permute initial_places block) → word_bits r0 ≡ drop 32 (permute initial_places block)
    → word_bits l1 ≡ (rounds first (halves_of l0 r0)).left → word_bits r1 ≡ (rounds first (halves_of l0 r0)).right
    → word_bits l2 ≡ (rounds second (halves_of r1 l1)).left → word_bits r2 ≡ (rounds second (halves_of r1 l1)).right
    → word_bits l3 ≡ (rounds third (halves_of r2 l2)).left → word_bits r3 ≡ (rounds third (halves_of r2 l2)).right
    → permute final_places (word_bits r3 ++ word_bits l3) ≡ des_computation third (des_computation second (des_computation first block))
three_passes first second third block l0 r0 l1 r1 l2 r2 l3 r3 left0 right0 left1 right1 left2 right2 left3 right3 =
    three_passes_of_halves first second third block l0 r0 l1 r1 l2 r2 l3 r3
    (are_halves l0 r0 (split (permute initial_places block)) left0 right0)
    (are_halves l1 r1 (rounds first (halves_of l0 r0)) left1 right1)
    (are_halves l2 r2 (rounds second (halves_of r1 l1)) left2 right2)
    (are_halves l3 r3 (rounds third (halves_of r2 l2)) left3 right3)
