use Rattle.std.proofs.Common.{ap, inr, refl, ◌∙◌, rules}
use Rattle.std.specs.Option.{option_copied}
use Rattle.std.specs.Prelude.{IsSome}
use Rattle.duk_commands.specs.KeyArgument.{initial_from, key_in}
use Rattle.duk_commands.specs.Find.{IsStartOf}
use Rattle.duk_commands.specs.inner.Search.{search_in}
use Rattle.duk_commands.proofs.FindOrder.{key_refused, sought_refused, start_refused, unsearched, window_refused}
use Rattle.duk_commands.proofs.Windows.{some_window}
use Rattle.duk_commands.proofs.find.find_lines.Goals as goal

pub returns-in_err-key-clause-refused : goal.returns-in_err-key-clause-refused
returns-in_err-key-clause-refused g c =
    let refused = unsearched _ _ (g.F.Sink.known c.args.fault.now) (key_refused c.args.given c.args.what.now c.args.clue (option_copied c.args.from) (option_copied c.args.window) c.read_key.result (search rules)) in
    search (rules, refused)

pub returns-in_err-sought-clause-refused : goal.returns-in_err-sought-clause-refused
returns-in_err-sought-clause-refused g c =
    let key : IsSome (key_in c.args.given) = search rules in
    let refused = unsearched _ _ (g.F.Sink.known c.args.fault.now) (sought_refused c.args.given c.args.what.now c.args.clue (option_copied c.args.from) (option_copied c.args.window) c.read_sought.result key c.read_sought.ensures.refused) in
    search (rules, refused)

pub returns-in_err-start-clause-refused : goal.returns-in_err-start-clause-refused
returns-in_err-start-clause-refused g c =
    let key : IsSome (key_in c.args.given) = search rules in
    let refused = unsearched _ _ (g.F.Sink.known c.args.fault.now) (start_refused c.args.given c.args.what.now c.args.clue (option_copied c.args.from) (option_copied c.args.window) c.in_ok-sought.sought c.read_start_of.result key c.in_ok-sought.ensures.read (search rules)) in
    search (rules, refused)

pub returns-in_err-most-clause-refused : goal.returns-in_err-most-clause-refused
returns-in_err-most-clause-refused g c =
    let key : IsSome (key_in c.args.given) = search rules in
    let starts : IsStartOf (option_copied c.args.from) c.in_ok-sought.sought c.in_ok-start.start = search rules in
    let refused = unsearched _ _ (g.F.Sink.known c.args.fault.now) (window_refused c.args.given c.args.what.now c.args.clue (option_copied c.args.from) (option_copied c.args.window) c.in_ok-sought.sought c.in_ok-start.start c.read_window.result key c.in_ok-sought.ensures.read starts (search rules)) in
    search (rules, refused)

pub returns-in-Some-clause-lines : goal.returns-in-Some-clause-lines
returns-in-Some-clause-lines g c =
    let window = some_window c.in_ok-start.start.counter c.in_ok-most.most c.chain.ensures.exists in
    let found = c.in-Some.ensures.found window.0 window.1 in
    record {
      told = _;
      asked = record {
        search = search_in c.in_ok-sought.sought c.initial_key-initial.result c.in_ok-start.start.iksn window.0;
        ksn = c.in-Some.found.ksn;
        origin = c.in-Some.found.origin;
        asked = record {
          key = c.in_ok-key.key;
          from = c.in_ok-start.start;
          most = c.in_ok-most.most;
          key_read = search rules;
          sought_read = c.in_ok-sought.ensures.read;
          from_read = search rules;
          most_read = search rules;
          initial_is = c.initial_key-initial.ensures ∙ ap (λ iksn. initial_from c.args.given c.in_ok-key.key iksn) c.iksn.ensures.value;
          iksn_is = refl;
          window_is = window.1;
        };
        found = found.found;
        text_is = c.line_of.ensures;
        told_are = refl;
      };
      progress = found.progress;
    }

pub returns-clause-refused : goal.returns-clause-refused
returns-clause-refused g c =
    let window = some_window c.in_ok-start.start.counter c.in_ok-most.most c.chain.ensures.exists in
    let vain = c.in-None.ensures.none window.0 window.1 in
    record {
      told = _;
      cause = inr (
        refl,
        record {
          search = search_in c.in_ok-sought.sought c.initial_key-initial.result c.in_ok-start.start.iksn window.0;
          asked = record {
            key = c.in_ok-key.key;
            from = c.in_ok-start.start;
            most = c.in_ok-most.most;
            key_read = search rules;
            sought_read = c.in_ok-sought.ensures.read;
            from_read = search rules;
            most_read = search rules;
            initial_is = c.initial_key-initial.ensures ∙ ap (λ iksn. initial_from c.args.given c.in_ok-key.key iksn) c.iksn.ensures.value;
            iksn_is = refl;
            window_is = window.1;
          };
          not_found = vain.not_found;
          told_are = refl;
        },
      );
      progress = vain.progress;
    }
