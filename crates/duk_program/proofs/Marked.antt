-- The texts of arguments, and those of some of them.
use Rattle.std.proofs.Common.{◌≡◌, ◌∷◌, ◌∙◌, ◌+◌, List, [], ℕ, zero, suc, Bool, String, Option, Some, None, ap, cond, length, nat_lt, not, option_map, position, refl, remove, string_bytes, sym, take}
use Rattle.std.proofs.lemmas.List.{take-map}
use Rattle.std.specs.List.{prefix_len}
use Rattle.std.specs.Option.{unwrap_or}
use Rattle.std.specs.Str.{bytes_eq}
use Rattle.duk_program.specs.Asked.{texts_of}
use Rattle.duk_program.specs.Options.{before_end, is_end, option_place}

-- the texts of arguments without one are the texts without that one
pub texts_without : {A : Type 0} (arguments : List (String A)) (place : ℕ) → texts_of (remove arguments place) ≡ remove (texts_of arguments) place
texts_without [] zero = refl
texts_without [] (suc place) = refl
texts_without (first ∷ rest) zero = refl
texts_without (first ∷ rest) (suc place) = ap (λ others. string_bytes first ∷ others) (texts_without rest place)

-- as many texts pass a test from the front on as arguments whose texts pass it
prefix_of_texts : {A : Type 0} (test : List ℕ → Bool) (arguments : List (String A))
    → prefix_len (λ word. test (string_bytes word)) arguments ≡ prefix_len test (texts_of arguments)
prefix_of_texts test [] = refl
prefix_of_texts test (first ∷ rest) = ap (λ count. cond (test (string_bytes first)) (1 + count) 0) (prefix_of_texts test rest)

count_of_texts : {A : Type 0} (arguments : List (String A)) → length arguments ≡ length (texts_of arguments)
count_of_texts [] = refl
count_of_texts (first ∷ rest) = ap suc (count_of_texts rest)

-- the place of a text among texts is that of its argument
abbrev place_in : ℕ → ℕ → Option ℕ
place_in place count = cond (nat_lt place count) (Some place) None

pub place_of_texts : {A : Type 0} (test : List ℕ → Bool) (arguments : List (String A))
    → position (λ word. test (string_bytes word)) arguments ≡ position test (texts_of arguments)
place_of_texts test arguments =
    ap (λ place. place_in place (length arguments)) (prefix_of_texts (λ word. not (test word)) arguments)
    ∙ ap (place_in (prefix_len (λ word. not (test word)) (texts_of arguments))) (count_of_texts arguments)

-- the texts before the end are those of the arguments before it
pub texts_before_end : {A : Type 0} (arguments : List (String A)) (end : ℕ) → end ≡ unwrap_or (position (λ word. is_end (string_bytes word)) arguments) (length arguments)
    → texts_of (take end arguments) ≡ before_end (texts_of arguments)
texts_before_end arguments end is =
    sym (take-map string_bytes end arguments)
    ∙ ap (λ count. take count (texts_of arguments)) (is ∙ ap (λ place. unwrap_or place (length arguments)) (place_of_texts is_end arguments)
    ∙ ap (unwrap_or (position is_end (texts_of arguments))) (count_of_texts arguments))

-- the place of an option among arguments, by that among the words before the end
pub place_of_marked : {A : Type 0} (option : List ℕ) (arguments : List (String A)) (name : String A) (words before : List (String A)) (place : Option ℕ) → arguments ≡ name ∷ words
    → texts_of before ≡ before_end (texts_of words) → place ≡ position (λ word. bytes_eq (string_bytes word) option) before
    → option_map (λ place. place + 1) place ≡ option_place option (texts_of arguments)
place_of_marked option arguments name words before place are same is =
    ap (option_map (λ place. place + 1)) (is ∙ place_of_texts (λ word. bytes_eq word option) before ∙ ap (position (λ word. bytes_eq word option)) same)
    ∙ ap (λ those. option_place option (texts_of those)) (sym are)
