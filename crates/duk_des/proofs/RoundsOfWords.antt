-- Rounds on words.
use Rattle.std.proofs.Common.{◌≡◌, ℕ, ◌+◌, ◌<◌, List, [], ◌∷◌, ◌++◌, length, map, drop, get_or, reverse, refl, sym, ap, subst, ◌∙◌, arith}
use Rattle.std.proofs.lemmas.List.{length-map, length-reverse, get_or-map, map-append, reverse-append}
use Rattle.duk_des.specs.Bits.{xor_bits}
use Rattle.duk_des.specs.Des.{Halves, cipher_function, rounds}
use Rattle.duk_des.specs.Words.{word_bits}
use Rattle.duk_des.specs.inner.Words.{key_bits}
use Rattle.duk_des.specs.declared.words.round_keys.RoundKey.{RoundKey}
use Rattle.duk_des.proofs.LiteralLists.{is_spelled, spelled}
use Rattle.duk_des.proofs.OneMoreRound.{one_round, no_round}

-- two words as halves
abbrev pub halves_of : ℕ → ℕ → Halves
halves_of left right = record { left = word_bits left; right = word_bits right }

abbrev pub no_key : RoundKey
no_key = record { odd = 0; even = 0 }

-- the rounds that are left after a round, and those before it
pub one_word_round : (keys : List RoundKey) (i left right next : ℕ) → length keys ≡ 16 → i < 16
    → word_bits next ≡ xor_bits (word_bits left) (cipher_function (word_bits right) (key_bits (get_or keys i no_key)))
    → rounds (drop (i + 1) (map key_bits keys)) (halves_of right next) ≡ rounds (drop i (map key_bits keys)) (halves_of left right)
one_word_round keys i left right next h within e =
    let here : i < length keys = omega (arith, h) in
    let there : i < length (map key_bits keys) = omega (arith, h, length-map keys key_bits) in
    one_round (map key_bits keys) i (word_bits left) (word_bits right) there (ap (cipher_function (word_bits right)) (sym (get_or-map key_bits keys i no_key [] here))) e

pub no_word_round : (keys : List RoundKey) (halves : Halves) → length keys ≡ 16 → halves ≡ rounds (drop 16 (map key_bits keys)) halves
no_word_round keys halves h = sym (no_round (map key_bits keys) 16 halves (omega (arith, h, length-map keys key_bits)))

map-reverse : (keys : List RoundKey) → map key_bits (reverse keys) ≡ reverse (map key_bits keys)
map-reverse [] = refl
map-reverse (key ∷ keys) =
    ap (map key_bits) (reverse-append (key ∷ []) keys)
    ∙ map-append key_bits (reverse keys) (key ∷ [])
    ∙ ap (λ all. all ++ (key_bits key ∷ [])) (map-reverse keys)
    ∙ sym (reverse-append (key_bits key ∷ []) (map key_bits keys))

-- the round key that comes so many places before the last
from_the_last : (keys : List RoundKey) (i : ℕ) → length keys ≡ 16 → get_or (reverse keys) i no_key ≡ get_or (reverse (spelled no_key 16 0 keys)) i no_key
from_the_last keys i h = ap (λ all. get_or (reverse all) i no_key) (is_spelled no_key 16 keys h)

-- a round with the round key that comes so many places before the last: the rounds in reverse order that are left after it, and those before it
pub one_round_backwards : (keys : List RoundKey) (i left right next : ℕ) → length keys ≡ 16 → i < 16
    → word_bits next ≡ xor_bits (word_bits left) (cipher_function (word_bits right) (key_bits (get_or (reverse (spelled no_key 16 0 keys)) i no_key)))
    → rounds (drop (i + 1) (reverse (map key_bits keys))) (halves_of right next) ≡ rounds (drop i (reverse (map key_bits keys))) (halves_of left right)
one_round_backwards keys i left right next h within e =
    let turned : length (reverse keys) ≡ 16 = length-reverse keys ∙ h in
    let same : word_bits next ≡ xor_bits (word_bits left) (cipher_function (word_bits right) (key_bits (get_or (reverse keys) i no_key))) =
    e ∙ ap (λ key. xor_bits (word_bits left) (cipher_function (word_bits right) (key_bits key))) (sym (from_the_last keys i h)) in
    subst (λ all. rounds (drop (i + 1) all) (halves_of right next) ≡ rounds (drop i all) (halves_of left right)) (map-reverse keys)
    (one_word_round (reverse keys) i left right next turned within same)

pub no_round_backwards : (keys : List RoundKey) (halves : Halves) → length keys ≡ 16 → halves ≡ rounds (drop 16 (reverse (map key_bits keys))) halves
no_round_backwards keys halves h =
    subst (λ all. halves ≡ rounds (drop 16 all) halves) (map-reverse keys) (no_word_round (reverse keys) halves (length-reverse keys ∙ h))
