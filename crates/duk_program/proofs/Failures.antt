-- Why no request is found, and what is reported of it.
use Rattle.std.proofs.Common.{Bool, List, None, Option, Some, [], ap, arith, bytes_eq, false, find, flat_map, inl, inr, not, option_map, refl, subst, sym, true, true≢false, ◌∙◌, ◌∷◌, ◌≡◌, ◌⊎◌}
use Rattle.std.proofs.lemmas.Grind.{common_steps}
use Rattle.std.specs.List.{list_any}
use Rattle.clap.specs.Simple.{HasMatchesOf, is_simple}
use Rattle.clap.specs.Words.{App, IsAmong, Row, Text, fault_of, is_simple_and_free, subcommand_of, subcommand_rows_of}
use Rattle.clap.specs.declared.parser.matches.ArgMatches.{ArgMatches}
use Rattle.clap.specs.declared.error.kind.ErrorKind.{ErrorKind}
use Rattle.clap.specs.declared.error.kind.ErrorKind.TheVariants.{ArgumentConflict, OutOfMemory}
use Rattle.duk_program.specs.Asked.{AsksAfter, AsksFor, IsNoRequestOf, entries_found, is_shown}
use Rattle.duk_program.specs.inner.Asked.{IsNoRequestAfter, IsReportedAs}
use Rattle.duk_program.specs.CommandLine.{all_commands, command_line, row_of}
use Rattle.duk_program.specs.declared.command_line.reading.NoRequest.{NoRequest}
use Rattle.duk_program.specs.declared.command_line.reading.NoRequest.TheVariants as answer
use Rattle.duk_program.specs.Fits.{fits_by}
use Rattle.duk_arguments.specs.Request.{Written}
use Rattle.duk_arguments.specs.declared.name.CommandName.{CommandName}
use Rattle.duk_program.proofs.Named.{named, one_asked}

-- of this command line `clap` reports which kinds of error may come
pub is_reported_of : is_simple_and_free command_line ≡ true
is_reported_of = refl

-- what is found after the command that is used is what the arguments ask for
pub command_found : (app : App) (arguments : List Text) (matches : ArgMatches) → app ≡ command_line
    → HasMatchesOf app arguments matches
    → subcommand_rows_of matches ≡ subcommand_of command_line arguments
command_found app arguments matches made has =
    (has (ap is_simple made)).1 ∙ ap (λ (a : App). subcommand_of a arguments) made

any_among : (test : ErrorKind → Bool) (kind : ErrorKind) (kinds : List ErrorKind)
    → IsAmong kind kinds → test kind ≡ true → list_any test kinds ≡ true
any_among test kind [] among passes = absurd among
any_among test kind (k ∷ kinds) (inl same) passes =
    let here : test k ≡ true = ap test (sym same) ∙ passes in rw here refl
any_among test kind (k ∷ kinds) (inr among) passes =
    let rest : list_any test kinds ≡ true = any_among test kind kinds among passes in
    grind (arith, common_steps)

-- what is reported of an error of the arguments stands for what they ask
pub is_no_request : (arguments : List Text) (kind : ErrorKind) (reported : NoRequest)
    → (kind ≡ OutOfMemory) ⊎ IsAmong kind (fault_of command_line arguments)
    → IsReportedAs kind reported → IsNoRequestOf arguments reported
is_no_request arguments kind (answer.Help text) (inl refused) shown =
    let hidden : is_shown kind ≡ false = ap is_shown refused in grind arith
is_no_request arguments kind (answer.Help text) (inr among) shown =
    any_among is_shown kind _ among shown
is_no_request arguments kind (answer.Refused text) (inl refused) reported = absurd (reported.1 refused)
is_no_request arguments kind (answer.Refused text) (inr among) reported =
    inl (any_among (λ k. not (is_shown k)) kind _ among (ap not reported.0))
is_no_request arguments kind answer.NoMemory fails reported = tt

-- what is reported of arguments that exclude each other stands where no request is asked for
pub is_conflict : (used : Option (Text × List Row)) (reported : NoRequest)
    → IsReportedAs ArgumentConflict reported → ((request : Written) → ¬ AsksAfter used request)
    → IsNoRequestAfter used reported
is_conflict used (answer.Help text) shown nothing = let hidden : false ≡ true = shown in cc
is_conflict used (answer.Refused text) reported nothing = nothing
is_conflict used answer.NoMemory reported nothing = tt

-- what stands in place of a request after a command stands for arguments without a fault
pub is_instead : (arguments : List Text) (reported : NoRequest) → fault_of command_line arguments ≡ []
    → IsNoRequestAfter (subcommand_of command_line arguments) reported → IsNoRequestOf arguments reported
is_instead arguments (answer.Help text) none bad = absurd bad
is_instead arguments (answer.Refused text) none nothing = inr (none, nothing)
is_instead arguments answer.NoMemory none nothing = tt

-- a request that does not fit is the only one that might be asked for
pub not_fitting : (used : Option (Text × List Row)) (command : CommandName) (rows : List Row) (made : Written)
    → used ≡ Some ((row_of command).name, rows)
    → made ≡ record { command = command; entries = flat_map (entries_found rows) (row_of command).parameters }
    → fits_by made.command made ≡ false → (request : Written) → ¬ AsksAfter used request
not_fitting used command rows made is found unfit request asks =
    let asked : AsksFor (row_of command).name rows request =
    subst (λ (o : Option (Text × List Row)). AsksAfter o request) is asks in
    let same : request ≡ made = one_asked command rows request asked ∙ sym found in
    let fit : fits_by made.command made ≡ true =
    subst (λ (r : Written). fits_by r.command r ≡ true) same asked.2 in
    true≢false (sym fit ∙ unfit)

-- no command has this name
pub unnamed : (used : Option (Text × List Row)) (name : Text) (rows : List Row) → used ≡ Some (name, rows)
    → find (λ (command : CommandName). bytes_eq (row_of command).name name) all_commands ≡ None
    → (request : Written) → ¬ AsksAfter used request
unnamed used name rows is none request asks =
    let asked : AsksFor name rows request =
    subst (λ (o : Option (Text × List Row)). AsksAfter o request) is asks in
    let found : find (λ (command : CommandName). bytes_eq (row_of command).name name) all_commands ≡ Some request.command =
    ap (λ (text : Text). find (λ (command : CommandName). bytes_eq (row_of command).name text) all_commands) asked.0
    ∙ named request.command in
    cc

-- a command that was used, by its name and by what was found after it
pub both_of : {A B C : Type 0} (f : A → B) (g : A → C) (o : Option A) (b : B) (c : C)
    → option_map f o ≡ Some b → option_map (λ (p : B × C). p.1) (option_map {U = B × C} (λ a. (f a, g a)) o) ≡ Some c
    → option_map {U = B × C} (λ a. (f a, g a)) o ≡ Some (b, c)
both_of {A} {B} {C} f g None b c first second = cc
both_of {A} {B} {C} f g (Some a) b c first second = cc
