-- What is said of members, by what is said of those of the program.
use Rattle.std.proofs.Common.{◌≡◌, ◌∷◌, ◌∙◌, ◌+◌, ◌<◌, List, [], ℕ, suc, Bool, Option, Some, None, ap, cond, length, map, nat_lt, not, position, refl, slice_index_or, slice_set, string_bytes, sym}
use Rattle.std.proofs.lemmas.List.{get_or-map, map-set}
use Rattle.std.specs.List.{prefix_len}
use Rattle.std.specs.Str.{bytes_eq}
use Rattle.dukpt.specs.inner.Answer.{Said, place_of, said, said_at, with_text}
use Rattle.dukpt.specs.inner.Members.{member_of}
use Rattle.dukpt.specs.declared.as_json.answer.Member.{Member}

-- as many pass a test from the front on as those of which it is a test
prefix_of_members : (test : Said → Bool) (members : List Member)
    → prefix_len (λ member. test (member_of member)) members ≡ prefix_len test (map member_of members)
prefix_of_members test [] = refl
prefix_of_members test (first ∷ rest) = ap (λ count. cond (test (member_of first)) (1 + count) 0) (prefix_of_members test rest)

count_of_members : (members : List Member) → length members ≡ length (map member_of members)
count_of_members [] = refl
count_of_members (first ∷ rest) = ap suc (count_of_members rest)

abbrev place_in : ℕ → ℕ → Option ℕ
place_in place count = cond (nat_lt place count) (Some place) None

-- the place of a name is that of the program's member
pub place_of_members : (name : List ℕ) (members : List Member)
    → position (λ member. bytes_eq (string_bytes member.name) name) members ≡ place_of name (map member_of members)
place_of_members name members =
    ap (λ place. place_in place (length members)) (prefix_of_members (λ member. not (bytes_eq member.0 name)) members)
    ∙ ap (place_in (prefix_len (λ member. not (bytes_eq member.0 name)) (map member_of members))) (count_of_members members)

-- a member at the place of a name with a text more is what is said under the name
pub said_at_place : (members : List Member) (place : ℕ) (old new : Member) (name text : List ℕ) → place < length members
    → old ≡ slice_index_or members place old → member_of new ≡ with_text (member_of old) text → Some place ≡ place_of name (map member_of members)
    → map member_of (slice_set members place new) ≡ said (map member_of members) name text
said_at_place members place old new name text bound is more at =
    map-set member_of members place new
    ∙ ap (slice_set (map member_of members) place) (more ∙ ap (λ member. with_text member text) (sym (get_or-map member_of members place old ([], []) bound ∙ ap member_of (sym is))))
    ∙ ap (λ place. said_at place (map member_of members) name text) at
