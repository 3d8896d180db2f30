-- The arguments of a request make it.
use Rattle.std.proofs.Common.{Bool, List, None, Option, Some, [], ap, ap₂, bytes_eq, codes, false, filter, flat_map, fold, inl, inr, map, not, refl, subst, sym, true, ℕ, ◌&&◌, ◌++◌, ◌||◌, ◌∙◌, ◌∷◌, ◌≡◌}
use Rattle.std.proofs.lemmas.Bool.{cases_Bool}
use Rattle.std.specs.List.{AllByRecursion, list_any}
use Rattle.clap.specs.Faults.{fault_of}
use Rattle.clap.specs.Kinds.{check_kinds, or_else}
use Rattle.clap.specs.Simple.{Shape, subcommand_of}
use Rattle.clap.specs.Takes.{is_given}
use Rattle.clap.specs.Walk.{Row, Rule, Text, settled, walked, with_default}
use Rattle.clap.proofs.WalkLemmas.{list_any-map}
use Rattle.duk_program.specs.Asked.{Asks, AsksAfter, AsksFor, entries_found, texts_found}
use Rattle.duk_program.specs.CommandLine.{Parameter, command_line, row_of}
use Rattle.duk_arguments.specs.Request.{Written, flag_in, texts_in}
use Rattle.duk_program.specs.Written.{AreAsMany, IsInForm, IsPlainArgument, arguments_of, entries_under}
use Rattle.duk_program.proofs.Given.{are_given}
use Rattle.duk_program.proofs.Known.{Facts, facts, known, leaf_of, start, wanted_facts}
use Rattle.duk_program.proofs.Leavings.{default_of, defaults_quiet, has_to_be_there, is_there, is_written, stays, texts_by_row, texts_in_row, texts_left}
use Rattle.duk_program.proofs.Named.{one_asked}
use Rattle.duk_program.proofs.Parameters.{after, all_met, all_wanted, known_of, reads_all, row_left, words_of_all}
use Rattle.duk_program.proofs.CommandRows.{row_at}
use Rattle.duk_program.proofs.ArgumentSteps.{Reads, Stands}
use Rattle.duk_program.proofs.TopLevel.{IsRead, end_fault, is_taken, is_used, level_is_quiet}

-- the texts under a name are as plain as all
plain_under : (name : Text) (entries : List (Text × Text))
    → AllByRecursion (λ (entry : Text × Text). IsPlainArgument entry.1) entries
    → AllByRecursion IsPlainArgument (map (λ (entry : Text × Text). entry.1)
    (filter (λ (entry : Text × Text). bytes_eq entry.0 name) entries))
plain_under name [] plain = tt
plain_under name (entry ∷ rest) plain = elim (cases_Bool (bytes_eq entry.0 name)) [
  | inl same ↦ rw same (plain.0, plain_under name rest plain.1)
  | inr other ↦ rw other (plain_under name rest plain.1)
]

module _ (request : Written) (form : IsInForm request) where
  abbrev parameters : List Parameter
  parameters = (row_of request.command).parameters

  abbrev texts : Text → List Text
  texts name = texts_in name request

  abbrev leaf : Shape
  leaf = leaf_of (row_of request.command)

  abbrev words : List Text
  words = words_of_all texts (flag_in (codes "PAN") request) parameters

  facts_are : facts texts request.command ≡ wanted_facts texts request.command
  facts_are = known texts request.command

  all_plain : (some : List Parameter)
      → AllByRecursion (λ (p : Parameter). AllByRecursion IsPlainArgument (texts_in p.name request)) some
  all_plain [] = tt
  all_plain (p ∷ rest) = (plain_under p.name request.entries form.plain, all_plain rest)

  starts : Stands leaf start (known_of texts [])
  starts = record {
    on = record { goes = refl; reads = refl };
    takes = λ word h. refl;
    knows = λ name. refl;
    quiet = refl;
    apart = λ name none. refl;
  }

  met : (given : Bool) → all_met texts given leaf.rules 1 [] parameters ≡ all_wanted texts given leaf.rules 1 [] parameters
  met true = ap (λ (f : Facts). f.met) facts_are
  met false = ap (λ (f : Facts). f.met_without) facts_are

  read : (last : ℕ) × Reads leaf start words (known_of texts (after [] parameters)) last
  read = reads_all texts (flag_in (codes "PAN") request) leaf start [] parameters starts
      (met (flag_in (codes "PAN") request)) (are_given request request.command form.fits form.many)
      (all_plain parameters)

  -- the rows that the walk leaves, and those that are found then
  abbrev rows : List Row
  rows = (settled leaf.rules (fold (walked leaf.rules []) start words).held).rows

  abbrev found : List Row
  found = fold with_default rows leaf.rules

  -- under the name of each argument the walk leaves its texts
  abbrev AreLeft : List Parameter → Type 0
  AreLeft some = AllByRecursion (λ (p : Parameter). row_at p.name rows ≡ row_left p.name (texts p.name)) some

  all_left : (some : List Parameter)
      → map (λ (p : Parameter). known_of texts (after [] parameters) p.name) some
      ≡ map (λ (p : Parameter). row_left p.name (texts p.name)) some → AreLeft some
  all_left [] same = tt
  all_left (p ∷ rest) same =
      let here : known_of texts (after [] parameters) p.name ≡ row_left p.name (texts p.name) = cc in
      (read.1.stands.knows p.name ∙ here, all_left rest cc)

  left : AreLeft parameters
  left = all_left parameters (ap (λ (f : Facts). f.known) facts_are)

  -- and so each is found with its texts
  all_found : (some : List Parameter) → AreLeft some
      → AllByRecursion (λ (p : Parameter). AreAsMany p.kind (texts_in p.name request)) some
      → map (λ (p : Parameter). map (λ a. texts_in_row p.kind (row_at p.name (default_of a))) leaf.rules) some
      ≡ map (λ (p : Parameter). map (λ a. texts_in_row p.kind None) leaf.rules) some
      → flat_map (entries_found found) some ≡ flat_map (entries_under request) some
  all_found [] left many same = refl
  all_found (p ∷ rest) left many same =
      let here : map (λ a. texts_in_row p.kind (row_at p.name (default_of a))) leaf.rules
      ≡ map (λ a. texts_in_row p.kind None) leaf.rules = cc in
      let own : texts_found p.kind p.name found ≡ texts p.name =
      texts_by_row p.kind p.name found ∙ stays (texts_in_row p.kind) p.name leaf.rules rows here
      ∙ ap (texts_in_row p.kind) left.0 ∙ texts_left p.kind p.name (texts p.name) many.0 in
      ap₂ (λ (own : List Text) (others : List (Text × Text)). map (λ text. (p.name, text)) own ++ others)
      own (all_found rest left.1 many.1 cc)

  entries_are : request.entries ≡ flat_map (entries_found found) parameters
  entries_are = form.order ∙ sym (all_found parameters left form.many (ap (λ (f : Facts). f.found) facts_are))

  -- none is missing that has to be there
  is_wanting : Bool × Text → Bool
  is_wanting argument = argument.0 && not (is_given argument.1 found)

  none_wanting : (some : List Parameter) → AreLeft some
      → AllByRecursion (λ (p : Parameter). AreAsMany p.kind (texts_in p.name request)) some
      → map (λ (p : Parameter). map (λ a. is_written (row_at p.name (default_of a))) leaf.rules) some
      ≡ map (λ (p : Parameter). map (λ a. false) leaf.rules) some
      → list_any is_wanting (map (λ (p : Parameter). (has_to_be_there p.kind, p.name)) some ++ (false, codes "help") ∷ [])
      ≡ false
  unfolding is_wanting
  none_wanting [] left many same = refl
  none_wanting (p ∷ rest) left many same =
      let here : map (λ a. is_written (row_at p.name (default_of a))) leaf.rules ≡ map (λ a. false) leaf.rules = cc in
      ap₂ (λ (a b : Bool). a || b)
      (ap (λ (written : Bool). has_to_be_there p.kind && not written)
      (stays is_written p.name leaf.rules rows here ∙ ap is_written left.0)
      ∙ is_there p.kind p.name (texts p.name) many.0)
      (none_wanting rest left.1 many.1 cc)

  end_quiet : end_fault leaf false (fold (walked leaf.rules []) start words).held ≡ []
  unfolding is_wanting
  end_quiet = ap₂ or_else read.1.stands.quiet
      (ap₂ or_else (defaults_quiet leaf.rules rows (ap (λ (f : Facts). f.default_faults) facts_are))
      (ap (check_kinds false false) (list_any-map is_wanting (λ (a : Rule). (a.required, a.id)) leaf.rules
      ∙ ap (λ (f : Facts). list_any is_wanting f.needed) facts_are
      ∙ none_wanting parameters left form.many (ap (λ (f : Facts). f.written) facts_are))))

  is_read : IsRead leaf words found
  is_read = record {
    quiet = level_is_quiet leaf [] words false [] (fold (walked leaf.rules []) start words) read.1.quiet refl refl end_quiet;
    rows = refl;
  }

  asked : AsksFor (row_of request.command).name found request
  asked = (refl, entries_are, form.fits)

  module _ (program : Text) where
    used : subcommand_of command_line (program ∷ arguments_of request) ≡ Some ((row_of request.command).name, found)
    used = is_used request.command words program found is_read

    pub taken : fault_of command_line (program ∷ arguments_of request) ≡ []
    taken = is_taken request.command words program found is_read

    pub asks : Asks (program ∷ arguments_of request) request
    asks = subst (λ (o : Option (Text × List Row)). AsksAfter o request) (sym used) asked

    pub only : (other : Written) → Asks (program ∷ arguments_of request) other → other ≡ request
    only other also =
        one_asked request.command found other (subst (λ (o : Option (Text × List Row)). AsksAfter o other) used also)
        ∙ ap (λ (entries : List (Text × Text)). record { command = request.command; entries = entries })
        (sym entries_are)
