-- Keys that texts write, from the front of the texts.
use Rattle.std.proofs.Common.{◌≡◌, ◌≢◌, ◌+◌, ◌<◌, ◌≤◌, ℕ, List, [], ◌∷◌, ◌++◌, Option, Some, None, length, map, take, get_or, ap, ap₂, sym, subst, ◌∙◌, arith, append-nil, take_all}
use Rattle.std.proofs.lemmas.Grind.{flat_map-append}
use Rattle.std.proofs.lemmas.List.{get_or-map, get_or-take, length-map, length-take, map-append, take_more}
use Rattle.duk_commands.specs.CheckValues.{HaveOneLength, IsOfOtherLength, IsSumOf, Write, lines_of}
use Rattle.duk_tdes.specs.KeyBytes.{bytes_of}
use Rattle.duk_tdes.specs.KeyText.{tdes_key_of_text}
use Rattle.duk_tdes.specs.declared.key.KeyBytes.{KeyBytes}
use Rattle.duk_tdes.specs.declared.key.KeyBytes.TheVariants.{Double}

abbrev pub key_at : List KeyBytes → ℕ → KeyBytes
key_at keys i = get_or keys i (Double [])

-- one text more writes one key more
pub write_more : (texts : List (List ℕ)) (keys : List KeyBytes) (i : ℕ) (key : KeyBytes) → i < length texts
    → Write (take i texts) keys → tdes_key_of_text (get_or texts i []) ≡ Some key → Write (take (i + 1) texts) (keys ++ key ∷ [])
write_more texts keys i key inside written more =
    ap (map tdes_key_of_text) (take_more texts i [] inside) ∙ map-append tdes_key_of_text (take i texts) (get_or texts i [] ∷ [])
    ∙ ap₂ (λ (front : List (Option KeyBytes)) (last : Option KeyBytes). front ++ last ∷ []) written more
    ∙ sym (map-append Some keys (key ∷ []))

-- there are as many keys as texts
pub as_many : (texts : List (List ℕ)) (keys : List KeyBytes) → Write texts keys → length texts ≡ length keys
as_many texts keys written =
    let read : length (map tdes_key_of_text texts) ≡ length texts = length-map texts tdes_key_of_text in
    let made : length (map Some keys) ≡ length keys = length-map keys Some in
    sym read ∙ ap length written ∙ made

-- the key of one text
pub written_at : (texts : List (List ℕ)) (keys : List KeyBytes) (i : ℕ) → i < length texts → Write texts keys
    → tdes_key_of_text (get_or texts i []) ≡ Some (key_at keys i)
written_at texts keys i inside written =
    sym (get_or-map tdes_key_of_text texts i [] None inside)
    ∙ ap (λ (l : List (Option KeyBytes)). get_or l i None) written
    ∙ get_or-map Some keys i (Double []) None (omega (arith, as_many texts keys written))

-- a text that writes no key
pub none_written : (texts : List (List ℕ)) (i : ℕ) → i < length texts → tdes_key_of_text (get_or texts i []) ≡ None
    → (keys : List KeyBytes) → ¬ Write texts keys
none_written texts i inside none keys written =
    let both : ◌≡◌ {A = Option KeyBytes} None (Some (key_at keys i)) = sym none ∙ written_at texts keys i inside written in
    grind arith

some_is : (a b : KeyBytes) → ◌≡◌ {A = Option KeyBytes} (Some a) (Some b) → a ≡ b
some_is a b same = cc same

-- a component whose length is not that of those before it
pub other_length : (texts : List (List ℕ)) (keys : List KeyBytes) (i : ℕ) (sum component : KeyBytes) → i < length texts
    → Write (take i texts) keys → IsSumOf keys (Some sum) → tdes_key_of_text (get_or texts i []) ≡ Some component
    → length (bytes_of sum) ≢ length (bytes_of component)
    → (all : List KeyBytes) → Write texts all → ¬ HaveOneLength all
other_length texts keys i sum component inside written is_sum more other all whole one =
    let count : i ≡ length keys = omega (arith, length-take i texts, as_many (take i texts) keys written) in
    let last : component ≡ key_at all i = some_is component (key_at all i) (sym more ∙ written_at texts all i inside whole) in
    let front : key_at keys 0 ≡ key_at all 0 =
    some_is (key_at keys 0) (key_at all 0)
    (sym (written_at (take i texts) keys 0 (omega (arith, is_sum.0, count, as_many (take i texts) keys written)) written)
    ∙ ap tdes_key_of_text (get_or-take i texts 0 [] (omega (arith, is_sum.0, count)))
    ∙ written_at texts all 0 (omega (arith, is_sum.0, count)) whole) in
    let all_count = as_many texts all whole in
    let first : length (bytes_of (key_at all 0)) ≡ one.0 = one.1 0 (Double []) (omega (arith, all_count)) in
    let at : length (bytes_of (key_at all i)) ≡ one.0 = one.1 i (Double []) (omega (arith, all_count)) in
    let of_sum : length (bytes_of (key_at keys 0)) ≡ length (bytes_of sum) = is_sum.2 0 (Double []) is_sum.0 in
    other (sym of_sum ∙ ap (λ k. length (bytes_of k)) front ∙ first ∙ sym at ∙ sym (ap (λ k. length (bytes_of k)) last))

-- components that have the length of their sum have one length
pub one_length : (keys : List KeyBytes) (sum : KeyBytes) → IsSumOf keys (Some sum) → HaveOneLength keys
one_length keys sum is = (length (bytes_of sum), is.2)

pub other_sum : (texts : List (List ℕ)) (keys : List KeyBytes) (i : ℕ) (sum : Option KeyBytes) (component : KeyBytes) → i < length texts
    → Write (take i texts) keys → IsSumOf keys sum → tdes_key_of_text (get_or texts i []) ≡ Some component
    → IsOfOtherLength sum component → (all : List KeyBytes) → Write texts all → ¬ HaveOneLength all
other_sum texts keys i None component inside written is_sum more other all whole = absurd other
other_sum texts keys i (Some sum) component inside written is_sum more other all whole =
    other_length texts keys i sum component inside written is_sum more other all whole

-- the lines of the keys, and of one more
pub lines_more : (line_of : List ℕ → List ℕ) (keys : List KeyBytes) (key : KeyBytes) (held more : List ℕ)
    → held ≡ lines_of line_of keys → more ≡ held ++ line_of (bytes_of key) → more ≡ lines_of line_of (keys ++ key ∷ [])
lines_more line_of keys key held more so_far one =
    let last : lines_of line_of (key ∷ []) ≡ line_of (bytes_of key) = append-nil (line_of (bytes_of key)) in
    one ∙ ap₂ (λ (a b : List ℕ). a ++ b) so_far (sym last) ∙ sym (flat_map-append (λ k. line_of (bytes_of k)) keys (key ∷ []))

-- where all texts are read, the front is all of them
pub whole_written : (texts : List (List ℕ)) (keys : List KeyBytes) (i : ℕ) → length texts ≤ i → Write (take i texts) keys → Write texts keys
whole_written texts keys i all written = subst (λ (front : List (List ℕ)). Write front keys) (take_all i texts all) written
