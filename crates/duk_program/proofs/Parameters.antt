-- The walk over the words of a command's arguments, in the order of its row.
use Rattle.std.proofs.Common.{Bool, List, None, Option, Some, [], ap, arith, bytes_eq, codes, false, flat_map, fold, if◌then◌else◌, inl, inr, length, min, nat_lt, refl, subst, sym, true, ℕ, ◌+◌, ◌==◌, ◌∙◌, ◌∷◌, ◌≡◌, ◌≤◌}
use Rattle.std.specs.List.{AllByRecursion}
use Rattle.clap.specs.declared.builder.value_parser.ValueParser.TheVariants as parser
use Rattle.clap.specs.Lexer.{long_of, usize_max}
use Rattle.clap.specs.Simple.{Shape, filled, with_index}
use Rattle.clap.specs.Walk.{Row, Rule, Text, Walk, arg_by_id, arg_by_index, arg_by_long, walked}
use Rattle.duk_program.specs.CommandLine.{Kind, Parameter, flag, named, needed, optional, rule_by, several, valued}
use Rattle.duk_program.specs.Written.{AreAsMany, IsPlainArgument, option_named, words_by}
use Rattle.duk_program.proofs.CommandRows.{row_with, used_at}
use Rattle.duk_program.proofs.ArgumentSteps.{IsNamed, IsPlace, Known, Reads, Stands, leaves_values, reads_flag, reads_more, reads_nothing, reads_option, reads_several, reads_single}
use Rattle.duk_program.proofs.PlainWords.{IsOption}
use Rattle.std.proofs.lemmas.Grind.{common_steps}
use Rattle.std.proofs.lemmas.Bool.{cases_Bool}
use Rattle.std.proofs.lemmas.Slice.Eq.{bytes_eq-Decides}
use Rattle.clap.specs.Kinds.{range_kinds, values_kinds}

-- an argument as it is built
abbrev pub built_rule : ℕ → Kind → Text → Rule
built_rule index kind name = with_index index (filled (rule_by kind name))

-- what is left under a name by these texts
abbrev pub row_left : Text → List Text → Option Row
row_left name [] = None
row_left name (text ∷ more) = Some (row_with name (text ∷ more))

abbrev pub learning : Known → Text → List Text → Known
learning known name texts other = if bytes_eq name other then row_left name texts else known other

-- what the rules of a command have of an argument: by its name, by its place and by `--name`; what
-- `--name` is; and what is known under the name before
pub record Met : Type 0 where
  pub by_name : Option Rule
  pub by_place : Option Rule
  pub by_option : Option Rule
  pub word : Option (Text × Option Text)
  pub is_end : Bool
  pub before : Option Row

abbrev met_by : List Rule → ℕ → Known → Text → Met
met_by rules index known name = record {
  by_name = arg_by_id rules name;
  by_place = arg_by_index rules index;
  by_option = arg_by_long rules name;
  word = long_of (option_named name);
  is_end = bytes_eq (option_named name) (45 ∷ 45 ∷ []);
  before = known name;
}

-- the same, where that is met which is wanted
abbrev at_place : Met → Rule → Met
at_place met rule = record met { by_name = Some rule; by_place = Some rule; before = None }

abbrev as_option : Met → Rule → Met
as_option met rule = record met {
  by_name = Some rule;
  by_option = Some rule;
  word = Some (rule.id, None);
  is_end = false;
  before = None;
}

abbrev wanted : Bool → ℕ → Kind → Text → Met → Met
wanted given index needed name met = at_place met (built_rule index needed name)
wanted true index optional name met = at_place met (built_rule index optional name)
wanted false index optional name met = record met { before = None }
wanted given index several name met = at_place met (built_rule index several name)
wanted given index valued name met = as_option met (built_rule index valued name)
wanted given index named name met = as_option met (built_rule index named name)
wanted given index flag name met = as_option met (built_rule index flag name)

-- where the next text stands that is no option's
abbrev index_past : Bool → Kind → ℕ → ℕ
index_past given needed index = min (index + 1) usize_max
index_past true optional index = min (index + 1) usize_max
index_past given _ index = index

-- as many texts as are written of an argument, where those that may be left out are all given or none is
abbrev pub AreGiven : Bool → Kind → List Text → Type 0
AreGiven given optional texts = length texts ≡ (if given then 1 else 0)
AreGiven given kind texts = AreAsMany kind texts

option_is : (rules : List Rule) (index : ℕ) (known : Known) (rule : Rule)
    → met_by rules index known rule.id ≡ as_option (met_by rules index known rule.id) rule → IsOption rule.id
option_is rules index known rule met = record {
  long = ap (λ (m : Met). m.word) met;
  not_end = ap (λ (m : Met). m.is_end) met;
}

same_texts : (texts : List Text) (name : Text) → flat_map (words_by several name) texts ≡ texts
same_texts [] name = refl
same_texts (text ∷ more) name = ap (λ (rest : List Text). text ∷ rest) (same_texts more name)

-- from 1 to 16 values are as many as are wanted, and each passes
range_is_quiet : (n : ℕ) → 1 ≤ n → n ≤ 16 → range_kinds 1 16 n ≡ []
range_is_quiet n least most =
    let some : (n == 0) ≡ false = grind (arith, common_steps) in
    let enough : nat_lt n 1 ≡ false = grind (arith, common_steps) in
    let few : nat_lt 16 n ≡ false = grind (arith, common_steps) in
    rw (some, enough, few) refl

all_pass : (texts : List Text) → values_kinds false parser.String texts ≡ []
all_pass [] = refl
all_pass (text ∷ rest) = all_pass rest

module _ (s : Shape) (w : Walk) (known : Known) (stands : Stands s w known) where
  place_at : (index : ℕ) (rule : Rule)
      → met_by s.rules index known rule.id ≡ at_place (met_by s.rules index known rule.id) rule
      → w.position ≡ index → rule.trailing_var_arg ≡ false → IsPlace s w known rule
  place_at index rule met at ends = record {
    stands = stands;
    fresh = ap (λ (m : Met). m.before) met;
    found = ap (λ (m : Met). m.by_name) met;
    place = ap (arg_by_index s.rules) at ∙ ap (λ (m : Met). m.by_place) met;
    ends = ends;
  }

  option_at : (index : ℕ) (rule : Rule)
      → met_by s.rules index known rule.id ≡ as_option (met_by s.rules index known rule.id) rule
      → IsNamed s w known rule
  option_at index rule met = record {
    stands = stands;
    fresh = ap (λ (m : Met). m.before) met;
    found = ap (λ (m : Met). m.by_name) met;
    long = ap (λ (m : Met). m.by_option) met;
    is = option_is s.rules index known rule met;
  }

  -- where nothing is written, nothing more is known
  reads_none : (name : Text) → known name ≡ None → Reads s w [] (learning known name []) w.position
  reads_none name fresh = reads_nothing s w (learning known name []) (record {
    on = stands.on;
    takes = stands.takes;
    knows = λ other. stands.knows other ∙ sym (same other);
    quiet = stands.quiet;
    apart = λ other none. stands.apart other (sym (same other) ∙ none);
  })
    where
      same : (other : Text) → learning known name [] other ≡ known other
      same other = elim (cases_Bool (bytes_eq name other)) [
        | inl equal ↦ rw equal (sym fresh ∙ ap known ((bytes_eq-Decides name other).0 equal))
        | inr differs ↦ rw differs refl
      ]

  -- the words of one argument are read
  reads_at : (given : Bool) (kind : Kind) (name : Text) (texts : List Text)
      → met_by s.rules w.position known name
      ≡ wanted given w.position kind name (met_by s.rules w.position known name)
      → AreGiven given kind texts → AllByRecursion IsPlainArgument texts
      → Reads s w (flat_map (words_by kind name) texts) (learning known name texts)
      (index_past given kind w.position)
  reads_at given needed name [] met many plain = absurd (omega arith)
  reads_at given needed name (text ∷ []) met many plain =
      let a = built_rule w.position needed name in
      reads_single s w known a (place_at w.position a met refl refl) text plain.0 (leaves_values a text [] refl refl refl refl)
  reads_at given needed name (text ∷ other ∷ more) met many plain = absurd (omega arith)
  reads_at true optional name [] met many plain = absurd (omega arith)
  reads_at true optional name (text ∷ []) met many plain =
      let a = built_rule w.position optional name in
      reads_single s w known a (place_at w.position a met refl refl) text plain.0 (leaves_values a text [] refl refl refl refl)
  reads_at true optional name (text ∷ other ∷ more) met many plain = absurd (omega arith)
  reads_at false optional name [] met many plain = reads_none name (ap (λ (m : Met). m.before) met)
  reads_at false optional name (text ∷ more) met many plain = absurd (omega arith)
  reads_at given several name [] met many plain = absurd (omega arith)
  reads_at given several name (text ∷ more) met many plain =
      let a = built_rule w.position several name in
      subst (λ (words : List Text). Reads s w words (learning known name (text ∷ more)) w.position)
      (sym (same_texts (text ∷ more) name))
      (reads_several s w known a (place_at w.position a met refl refl) refl text more plain
      (leaves_values a text more refl refl (range_is_quiet (length (text ∷ more)) many.0 many.1) (all_pass (text ∷ more))))
  reads_at given valued name [] met many plain = reads_none name (ap (λ (m : Met). m.before) met)
  reads_at given valued name (text ∷ []) met many plain =
      let a = built_rule w.position valued name in
      reads_option s w known a (option_at w.position a met) text plain.0 refl refl (leaves_values a text [] refl refl refl refl)
  reads_at given valued name (text ∷ other ∷ more) met many plain = absurd (omega arith)
  reads_at given named name [] met many plain = absurd (omega arith)
  reads_at given named name (text ∷ []) met many plain =
      let a = built_rule w.position named name in
      reads_option s w known a (option_at w.position a met) text plain.0 refl refl (leaves_values a text [] refl refl refl refl)
  reads_at given named name (text ∷ other ∷ more) met many plain = absurd (omega arith)
  reads_at given flag name texts met (inl none) plain =
      rw none (reads_none name (ap (λ (m : Met). m.before) met))
  reads_at given flag name texts met (inr there) plain =
      let a = built_rule w.position flag name in
      rw there (reads_flag s w known a (option_at w.position a met) (codes "true" ∷ []) refl (record {
        rows = used_at name (codes "true" ∷ []);
        quiet = λ again rows fresh. rw fresh refl;
      }))

-- arguments before the rest, of which the last stands first
abbrev pub after : List Parameter → List Parameter → List Parameter
after before [] = before
after before (p ∷ rest) = after (p ∷ before) rest

-- what is known after some arguments with these texts
abbrev pub known_of : (Text → List Text) → List Parameter → Known
known_of texts [] = λ name. None
known_of texts (p ∷ before) = learning (known_of texts before) p.name (texts p.name)

module _ (texts : Text → List Text) (given : Bool) where
  -- what the rules have of each argument, and what is wanted
  abbrev pub all_met : List Rule → ℕ → List Parameter → List Parameter → List Met
  all_met rules index before [] = []
  all_met rules index before (p ∷ rest) = met_by rules index (known_of texts before) p.name
      ∷ all_met rules (index_past given p.kind index) (p ∷ before) rest

  abbrev pub all_wanted : List Rule → ℕ → List Parameter → List Parameter → List Met
  all_wanted rules index before [] = []
  all_wanted rules index before (p ∷ rest) =
      wanted given index p.kind p.name (met_by rules index (known_of texts before) p.name)
      ∷ all_wanted rules (index_past given p.kind index) (p ∷ before) rest

  abbrev pub words_of_all : List Parameter → List Text
  words_of_all = flat_map (λ p. flat_map (words_by p.kind p.name) (texts p.name))

  -- the words of all arguments are read
  pub reads_all : (s : Shape) (w : Walk) (before rest : List Parameter) → Stands s w (known_of texts before)
      → all_met s.rules w.position before rest ≡ all_wanted s.rules w.position before rest
      → AllByRecursion (λ p. AreGiven given p.kind (texts p.name)) rest
      → AllByRecursion (λ p. AllByRecursion IsPlainArgument (texts p.name)) rest
      → (last : ℕ) × Reads s w (words_of_all rest) (known_of texts (after before rest)) last
  reads_all s w before [] stands met many plain = (w.position, reads_nothing s w (known_of texts before) stands)
  reads_all s w before (p ∷ rest) stands met many plain =
      let words = flat_map (words_by p.kind p.name) (texts p.name) in
      let index = index_past given p.kind w.position in
      let v = fold (walked s.rules []) w words in
      let here : met_by s.rules w.position (known_of texts before) p.name
      ≡ wanted given w.position p.kind p.name (met_by s.rules w.position (known_of texts before) p.name) = cc in
      let later : all_met s.rules index (p ∷ before) rest ≡ all_wanted s.rules index (p ∷ before) rest = cc in
      let read = reads_at s w (known_of texts before) stands given p.kind p.name (texts p.name) here many.0 plain.0 in
      let more = reads_all s v (p ∷ before) rest read.stands
      (subst (λ (k : ℕ). all_met s.rules k (p ∷ before) rest ≡ all_wanted s.rules k (p ∷ before) rest)
      (sym read.place) later) many.1 plain.1 in
      (more.0, reads_more s w words (words_of_all rest) _ (known_of texts (after (p ∷ before) rest)) index more.0 read more.1)
