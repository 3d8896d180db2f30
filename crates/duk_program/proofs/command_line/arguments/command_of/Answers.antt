use Rattle.std.proofs.Common.{◌≡◌, ◌∷◌, ◌∙◌, ◌++◌, ◌+◌, ◌<◌, ◌||◌, [], ℕ, Bool, List, ap, ap₂, get_or, length, map, sym, take}
use Rattle.std.proofs.lemmas.List.{map-append, take_more}
use Rattle.clap.specs.Words.{AddsArg, App, Rule, Shape, Text}
use Rattle.clap.specs.declared.builder.arg.Arg.{Arg}
use Rattle.clap.specs.declared.builder.command.Command.{Command}
use Rattle.duk_program.specs.CommandLine.{Parameter, row, rule_of_parameter, shape_of_row}
use Rattle.duk_program.specs.inner.CommandLine.{IsArgument, IsCommand, parameter_of}
use Rattle.duk_program.specs.declared.command_line.arguments.Argument.{Argument}
use Rattle.duk_program.specs.declared.command_line.arguments.Way.{Way}
use Rattle.duk_program.proofs.command_line.arguments.command_of.Goals as goal

-- the command with one argument more
one_more : (old new : Command) (clap_argument : Arg) (name : Text) (way : Way) (arguments : List Argument) (i : ℕ) (d : Argument)
    → i < length arguments → IsCommand (shape_of_row (row name way (map parameter_of (take i arguments)))) old
    → IsArgument (rule_of_parameter (parameter_of (get_or arguments i d))) clap_argument
    → AddsArg old clap_argument new
    → IsCommand (shape_of_row (row name way (map parameter_of (take (i + 1) arguments)))) new
one_more old new clap_argument name way arguments i d within was is adds =
    let next = parameter_of (get_or arguments i d) in
    let more : map parameter_of (take (i + 1) arguments) ≡ map parameter_of (take i arguments) ++ next ∷ [] =
    ap (map parameter_of) (take_more arguments i d within)
    ∙ map-append parameter_of (take i arguments) (get_or arguments i d ∷ []) in (
      ap (λ (app : App). app.top) (adds.shape is.1)
          ∙ ap₂ (λ (shape : Shape) (rule : Rule). record shape { rules = shape.rules ++ rule ∷ [] }) was.0 is.0
          ∙ ap (λ (rules : List Rule). record (shape_of_row (row name way [])) { rules = rules })
          (sym (map-append rule_of_parameter (map parameter_of (take i arguments)) (next ∷ [])))
          ∙ ap (λ (parameters : List Parameter). shape_of_row (row name way parameters)) (sym more),
      adds.globals ∙ ap₂ (λ (a b : Bool). a || b) was.1 is.1,
    )

pub loop-argument-preserved : goal.loop-argument-preserved
loop-argument-preserved c =
    one_more c.loop-argument.command c.in_ok-command.command c.clap_argument.result c.args.usage.now.name.now c.args.usage.now.way
    c.args.usage.now.arguments.now
    c.loop-argument.argument-index _ c.loop-argument-test.true c.loop-argument.invariant c.clap_argument.ensures
    c.in_ok-command.ensures
