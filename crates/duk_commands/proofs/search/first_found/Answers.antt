use Rattle.std.proofs.Common.{◌≤◌, ℕ, IfNone, IfSome, [], length, ap, rules}
use Rattle.std.proofs.lemmas.List.Elements.{All-nil, All-same}
use Rattle.duk_commands.specs.Find.{NoneMakesAt, Search}
use Rattle.duk_commands.specs.inner.Search.{IsFoundTelling, IsNotFoundTelling, search_in}
use Rattle.duk_commands.proofs.ProgressLines.{none_told}
use Rattle.duk_commands.proofs.SearchSteps.{among}
use Rattle.duk_commands.proofs.Windows.{no_window, window_from}
use Rattle.duk_commands.proofs.search.first_found.Goals as goal
use Rattle.duk_tree.specs.Path.{IsUsable}

pub returns-in_err-first-clause-none : goal.returns-in_err-first-clause-none
returns-in_err-first-clause-none g c window is_window =
    let here = search_in c.args.sought.now c.args.initial.now c.args.from.iksn window in
    let none : (other : ℕ) → IsUsable other → ¬ (c.args.from.counter ≤ other) = search rules in
    let no_number = no_window c.args.from.counter c.args.most window none is_window in
    let vain : IsNotFoundTelling here c.args.most (g.F.Sink.known c.args.fault.now) (g.F.Sink.known c.args.fault.now) = record {
      not_found = All-same (NoneMakesAt here) window [] no_number (All-nil (NoneMakesAt here));
      progress = none_told c.args.sought.now c.args.most (length window) _ (ap length no_number);
    } in
    search (rules, vain)

pub returns-clause-found : goal.returns-clause-found
returns-clause-found g c window is_window =
    let first = c.in_ok-first.ensures.first in
    let front = window_from c.args.from.counter c.in_ok-first.first.counter c.args.most window first.1 is_window in
    let holds = λ (search : Search). IfSome c.first_among.result (λ found. IsFoundTelling search c.args.most found.ksn found.origin
    (g.F.Sink.known c.args.fault.now) (g.F.Sink.known c.first_among.new.fault)) in
    among holds c.args.sought.now c.args.initial.now c.in_ok-registers.registers c.args.from.iksn c.in_ok-first.first.counter c.args.most window
    front (search rules) (search rules) c.in_ok-registers.ensures.future_keys c.first_among.ensures.found

pub returns-clause-none : goal.returns-clause-none
returns-clause-none g c window is_window =
    let first = c.in_ok-first.ensures.first in
    let front = window_from c.args.from.counter c.in_ok-first.first.counter c.args.most window first.1 is_window in
    let holds = λ (search : Search). IfNone c.first_among.result (IsNotFoundTelling search c.args.most
    (g.F.Sink.known c.args.fault.now) (g.F.Sink.known c.first_among.new.fault)) in
    among holds c.args.sought.now c.args.initial.now c.in_ok-registers.registers c.args.from.iksn c.in_ok-first.first.counter c.args.most window
    front (search rules) (search rules) c.in_ok-registers.ensures.future_keys c.first_among.ensures.none
