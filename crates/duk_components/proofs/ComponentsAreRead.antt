-- Components that lines write, from the front of the lines.
use Rattle.std.proofs.Common.{◌≡◌, ◌≢◌, ◌+◌, ◌<◌, ◌≤◌, ℕ, List, [], ◌∷◌, ◌++◌, Option, Some, None, length, map, take, get_or, ap, ap₂, sym, subst, ◌∙◌, arith, append-nil, append_assoc, take_all, refl, zero, suc}
use Rattle.std.proofs.lemmas.List.{get_or-map, get_or-take, length-map, length-take, map-append, take_more}
use Rattle.duk_commands.specs.CheckValues.{HaveOneLength, IsOfOtherLength, IsSumOf}
use Rattle.duk_components.specs.Components.{AreComponents, Write, component_line, component_lines, component_of}
use Rattle.duk_tdes.specs.KeyBytes.{bytes_of}
use Rattle.duk_tdes.specs.declared.key.KeyBytes.{KeyBytes}
use Rattle.duk_tdes.specs.declared.key.KeyBytes.TheVariants.{Double}

abbrev pub key_at : List KeyBytes → ℕ → KeyBytes
key_at keys i = get_or keys i (Double [])

-- one text more writes one key more
pub write_more : (texts : List (List ℕ)) (keys : List KeyBytes) (i : ℕ) (key : KeyBytes) → i < length texts
    → Write (take i texts) keys → component_of (get_or texts i []) ≡ Some key → Write (take (i + 1) texts) (keys ++ key ∷ [])
write_more texts keys i key inside written more =
    ap (map component_of) (take_more texts i [] inside) ∙ map-append component_of (take i texts) (get_or texts i [] ∷ [])
    ∙ ap₂ (λ (front : List (Option KeyBytes)) (last : Option KeyBytes). front ++ last ∷ []) written more
    ∙ sym (map-append Some keys (key ∷ []))

-- there are as many keys as texts
pub as_many : (texts : List (List ℕ)) (keys : List KeyBytes) → Write texts keys → length texts ≡ length keys
as_many texts keys written =
    let read : length (map component_of texts) ≡ length texts = length-map texts component_of in
    let made : length (map Some keys) ≡ length keys = length-map keys Some in
    sym read ∙ ap length written ∙ made

-- the key of one text
pub written_at : (texts : List (List ℕ)) (keys : List KeyBytes) (i : ℕ) → i < length texts → Write texts keys
    → component_of (get_or texts i []) ≡ Some (key_at keys i)
written_at texts keys i inside written =
    sym (get_or-map component_of texts i [] None inside)
    ∙ ap (λ (l : List (Option KeyBytes)). get_or l i None) written
    ∙ get_or-map Some keys i (Double []) None (omega (arith, as_many texts keys written))

-- a text that writes no key
pub none_written : (texts : List (List ℕ)) (i : ℕ) → i < length texts → component_of (get_or texts i []) ≡ None
    → (keys : List KeyBytes) → ¬ Write texts keys
none_written texts i inside none keys written =
    let both : ◌≡◌ {A = Option KeyBytes} None (Some (key_at keys i)) = sym none ∙ written_at texts keys i inside written in
    grind arith

some_is : (a b : KeyBytes) → ◌≡◌ {A = Option KeyBytes} (Some a) (Some b) → a ≡ b
some_is a b same = cc same

-- a component whose length is not that of those before it
pub other_length : (texts : List (List ℕ)) (keys : List KeyBytes) (i : ℕ) (sum component : KeyBytes) → i < length texts
    → Write (take i texts) keys → IsSumOf keys (Some sum) → component_of (get_or texts i []) ≡ Some component
    → length (bytes_of sum) ≢ length (bytes_of component)
    → (all : List KeyBytes) → Write texts all → ¬ HaveOneLength all
other_length texts keys i sum component inside written is_sum more other all whole one =
    let count : i ≡ length keys = omega (arith, length-take i texts, as_many (take i texts) keys written) in
    let last : component ≡ key_at all i = some_is component (key_at all i) (sym more ∙ written_at texts all i inside whole) in
    let front : key_at keys 0 ≡ key_at all 0 =
    some_is (key_at keys 0) (key_at all 0)
    (sym (written_at (take i texts) keys 0 (omega (arith, is_sum.0, count, as_many (take i texts) keys written)) written)
    ∙ ap component_of (get_or-take i texts 0 [] (omega (arith, is_sum.0, count)))
    ∙ written_at texts all 0 (omega (arith, is_sum.0, count)) whole) in
    let all_count = as_many texts all whole in
    let first : length (bytes_of (key_at all 0)) ≡ one.0 = one.1 0 (Double []) (omega (arith, all_count)) in
    let at : length (bytes_of (key_at all i)) ≡ one.0 = one.1 i (Double []) (omega (arith, all_count)) in
    let of_sum : length (bytes_of (key_at keys 0)) ≡ length (bytes_of sum) = is_sum.2 0 (Double []) is_sum.0 in
    other (sym of_sum ∙ ap (λ k. length (bytes_of k)) front ∙ first ∙ sym at ∙ sym (ap (λ k. length (bytes_of k)) last))

-- components that have the length of their sum have one length
pub one_length : (keys : List KeyBytes) (sum : KeyBytes) → IsSumOf keys (Some sum) → HaveOneLength keys
one_length keys sum is = (length (bytes_of sum), is.2)

pub other_sum : (texts : List (List ℕ)) (keys : List KeyBytes) (i : ℕ) (sum : Option KeyBytes) (component : KeyBytes) → i < length texts
    → Write (take i texts) keys → IsSumOf keys sum → component_of (get_or texts i []) ≡ Some component
    → IsOfOtherLength sum component → (all : List KeyBytes) → Write texts all → ¬ HaveOneLength all
other_sum texts keys i None component inside written is_sum more other all whole = absurd other
other_sum texts keys i (Some sum) component inside written is_sum more other all whole =
    other_length texts keys i sum component inside written is_sum more other all whole

-- the lines of components from a place on, and of one more
lines_from : (place : ℕ) (keys : List KeyBytes) (key : KeyBytes)
    → component_lines place (keys ++ key ∷ []) ≡ component_lines place keys ++ component_line (place + length keys) key
lines_from place [] key = append-nil (component_line place key) ∙ ap (λ (n : ℕ). component_line n key) (omega arith)
lines_from place (first ∷ keys) key =
    ap (λ (rest : List ℕ). component_line place first ++ rest) (lines_from (place + 1) keys key)
    ∙ sym (append_assoc (component_line place first) (component_lines (place + 1) keys) (component_line (place + 1 + length keys) key))
    ∙ ap (λ (n : ℕ). (component_line place first ++ component_lines (place + 1) keys) ++ component_line n key) (omega arith)

pub lines_more : (keys : List KeyBytes) (key : KeyBytes) (place : ℕ) (held more : List ℕ) → place ≡ 1 + length keys
    → held ≡ component_lines 1 keys → more ≡ held ++ component_line place key → more ≡ component_lines 1 (keys ++ key ∷ [])
lines_more keys key place held more at so_far one =
    one ∙ ap₂ (λ (front : List ℕ) (n : ℕ). front ++ component_line n key) so_far at ∙ sym (lines_from 1 keys key)

-- where all texts are read, the front is all of them
pub whole_written : (texts : List (List ℕ)) (keys : List KeyBytes) (i : ℕ) → length texts ≤ i → Write (take i texts) keys → Write texts keys
whole_written texts keys i all written = subst (λ (front : List (List ℕ)). Write front keys) (take_all i texts all) written

-- a line that writes no component, behind those before it
pub no_more : (texts : List (List ℕ)) (i : ℕ) → i < length texts → component_of (get_or texts i []) ≡ None
    → (all : List KeyBytes) → ¬ AreComponents (take (i + 1) texts) all
no_more texts i inside none all are =
    none_written (take (i + 1) texts) i (omega (arith, inside, length-take (i + 1) texts))
    (ap component_of (get_or-take (i + 1) texts i [] (omega arith)) ∙ none) all are.written

front_of_next : (texts : List (List ℕ)) (i : ℕ) → take i (take (suc i) texts) ≡ take i texts
front_of_next [] zero = refl
front_of_next [] (suc i) = refl
front_of_next (text ∷ texts) zero = refl
front_of_next (text ∷ texts) (suc i) = ap (λ (rest : List (List ℕ)). text ∷ rest) (front_of_next texts i)

front_of_more : (texts : List (List ℕ)) (i : ℕ) → take i (take (i + 1) texts) ≡ take i texts
front_of_more texts i =
    let next : i + 1 ≡ suc i = omega arith in
    ap (λ (n : ℕ). take i (take n texts)) next ∙ front_of_next texts i

-- one of another length
pub other_more : (texts : List (List ℕ)) (keys : List KeyBytes) (i : ℕ) (sum : Option KeyBytes) (component : KeyBytes) → i < length texts
    → Write (take i texts) keys → IsSumOf keys sum → component_of (get_or texts i []) ≡ Some component
    → IsOfOtherLength sum component → (all : List KeyBytes) → ¬ AreComponents (take (i + 1) texts) all
other_more texts keys i sum component inside written is_sum more other all are =
    other_sum (take (i + 1) texts) keys i sum component (omega (arith, inside, length-take (i + 1) texts))
    (subst (λ (front : List (List ℕ)). Write front keys) (sym (front_of_more texts i)) written) is_sum
    (ap component_of (get_or-take (i + 1) texts i [] (omega arith)) ∙ more) other all are.written are.one_length

-- components with a sum have one length
pub have_one_length : (keys : List KeyBytes) (sum : Option KeyBytes) → IsSumOf keys sum → HaveOneLength keys
have_one_length keys None is = subst HaveOneLength (sym is) (0, λ k d inside. absurd (omega arith))
have_one_length keys (Some sum) is = one_length keys sum is
