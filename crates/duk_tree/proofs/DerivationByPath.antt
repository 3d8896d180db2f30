-- The loop of `derive` goes down the path of the counter, one node at a time.
use Rattle.std.proofs.Common.{◌≡◌, ℕ, suc, ◌+◌, ◌-◌, ◌*◌, ◌/◌, ◌%◌, ◌^◌, ◌<◌, ◌≤◌, List, [], ◌∷◌, ◌++◌, length, take, drop, refl, sym, ap, ◌∙◌, arith}
use Rattle.std.proofs.lemmas.List.{take-append-le, take_all, drop_all, append-nil, length-drop, length-append}
use Rattle.std.proofs.Math.Nat.{div-mul-le_self, mod-eq_of_lt}
use borrow.Rule.Slice.PartMut.{put_mid}
use Rattle.duk_tree.specs.Path.{value_of, path_of}
use Rattle.duk_tree.specs.Derivation.{step_of, node_key, transaction_key_of}
use Rattle.duk_tree.specs.Serial.{low_bytes}
use Rattle.duk_tree.proofs.PathsOfCounters.{path_from, value_of-path_from}

down : (initial : List ℕ) (iksn counter place count : ℕ) (key : List ℕ) → place + suc count ≡ 21 → counter < 2 ^ 21
    → counter / 2 ^ place % 2 ≡ 1
    → key ≡ node_key initial iksn (path_from (suc place) count counter)
    → step_of key (low_bytes (record { iksn = iksn; counter = counter / 2 ^ place * 2 ^ place }))
    ≡ node_key initial iksn (path_from place (suc count) counter)
down initial iksn counter place count key end fits odd known =
    let parent = path_from (suc place) count counter in
    let split : path_from place (suc count) counter ≡ place ∷ parent = rw odd refl in
    let value : counter / 2 ^ place * 2 ^ place ≡ value_of (place ∷ parent) =
    sym (value_of-path_from (suc count) place counter end fits) ∙ ap value_of split in
    rw (known, value) (sym (ap (node_key initial iksn) split))

-- where the bit below `place` is one, the key goes down to that node
pub node_key-taken : (initial : List ℕ) (iksn counter place : ℕ) (key : List ℕ) → 0 < place → place ≤ 21 → counter < 2 ^ 21
    → counter / 2 ^ (place - 1) % 2 ≡ 1
    → key ≡ node_key initial iksn (path_from place (21 - place) counter)
    → step_of key (low_bytes (record { iksn = iksn; counter = counter / 2 ^ (place - 1) * 2 ^ (place - 1) }))
    ≡ node_key initial iksn (path_from (place - 1) (21 - (place - 1)) counter)
node_key-taken initial iksn counter place key some within fits odd known =
    let more : 21 - (place - 1) ≡ suc (21 - place) = omega arith in
    let above : place ≡ suc (place - 1) = omega arith in
    let known' : key ≡ node_key initial iksn (path_from (suc (place - 1)) (21 - place) counter) =
    known ∙ ap (λ n. node_key initial iksn (path_from n (21 - place) counter)) above in
    down initial iksn counter (place - 1) (21 - place) key (omega arith) fits odd known'
    ∙ ap (λ n. node_key initial iksn (path_from (place - 1) n counter)) (sym more)

-- where it is zero, the key stays
pub node_key-skipped : (initial : List ℕ) (iksn counter place : ℕ) (key : List ℕ) → 0 < place → place ≤ 21
    → counter / 2 ^ (place - 1) % 2 ≡ 0
    → key ≡ node_key initial iksn (path_from place (21 - place) counter)
    → key ≡ node_key initial iksn (path_from (place - 1) (21 - (place - 1)) counter)
node_key-skipped initial iksn counter place key some within even known =
    let more : 21 - (place - 1) ≡ suc (21 - place) = omega arith in
    let above : place ≡ suc (place - 1) = omega arith in
    let same : path_from (place - 1) (suc (21 - place)) counter ≡ path_from (suc (place - 1)) (21 - place) counter = rw even refl in
    known ∙ ap (λ n. node_key initial iksn (path_from n (21 - place) counter)) above
    ∙ ap (node_key initial iksn) (sym same)
    ∙ ap (λ n. node_key initial iksn (path_from (place - 1) n counter)) (sym more)

pub transaction_key_of-path_from : (initial : List ℕ) (iksn counter : ℕ) → node_key initial iksn (path_from 0 21 counter) ≡ transaction_key_of initial iksn counter
unfolding path_of
transaction_key_of-path_from initial iksn counter = refl

-- a counter shifted right and left again is what stands from that place up
pub shifted_back : (counter place : ℕ) → counter < 2 ^ 21 → counter / 2 ^ place * 2 ^ place % 2 ^ 32 ≡ counter / 2 ^ place * 2 ^ place
shifted_back counter place fits = let below = div-mul-le_self counter (2 ^ place) in mod-eq_of_lt (omega arith)

-- two blocks written into the halves of sixteen bytes
pub put_mid-joined : (left right zeros : List ℕ) → length left ≡ 8 → length zeros ≡ 8 → put_mid 8 8 (left ++ zeros) right ≡ left ++ right
put_mid-joined left right zeros eight eight_zeros =
    let front : take 8 (left ++ zeros) ≡ left = take-append-le 8 left zeros (omega arith) ∙ take_all 8 left (omega arith) in
    let rest : drop 8 (drop 8 (left ++ zeros)) ≡ [] = drop_all 8 (drop 8 (left ++ zeros)) (simp (length-drop, length-append) (omega arith)) in
    rw (front, rest, append-nil) refl
