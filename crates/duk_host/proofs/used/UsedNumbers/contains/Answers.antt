use Rattle.duk_host.proofs.NumbersOfRanges.{HaveOnePath, used_iff_held}
use Rattle.duk_host.proofs.used.UsedNumbers.contains.Goals as goal

pub returns : goal.returns
returns c =
    let paths : HaveOnePath = record {
      path_of_counter = c.paths.ensures.path_of_counter;
      value = c.paths.ensures.value;
      counter_of_path = c.paths.ensures.counter_of_path;
      only = c.paths.ensures.only;
    } in
    let used = used_iff_held paths c.self.inside.ranges c.contains.ensures.ordered c.args.ksn in
    rw (← c.self.view_is) (λ is. used.1 (c.contains.ensures.held.0 is), λ is_used. c.contains.ensures.held.1 (used.0 is_used))
