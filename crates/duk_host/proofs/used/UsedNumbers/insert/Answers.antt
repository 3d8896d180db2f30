use Rattle.std.proofs.Common.{Bool, true, false, ◌↔◌, MatchBool}
use Rattle.std.proofs.lemmas.Result.{IfOk-weaker}
use Rattle.duk_host.specs.inner.Index.{HoldsOneMore, IsHeld, numbers_in}
use Rattle.duk_host.specs.Used.{IsOneMore, IsUsed}
use Rattle.duk_host.proofs.NumbersOfRanges.{HaveOnePath, used_iff_held, used_one_more}
use Rattle.duk_host.proofs.used.UsedNumbers.insert.Goals as goal
use Rattle.duk_host.proofs.used.UsedNumbers.insert.Goals.{After-insert}

paths : After-insert → HaveOnePath
paths c = record {
  path_of_counter = c.paths.ensures.path_of_counter;
  value = c.paths.ensures.value;
  counter_of_path = c.paths.ensures.counter_of_path;
  only = c.paths.ensures.only;
}

-- a number that was in no range was not used
fresh_is_unused : {P Q : Type 0} (fresh : Bool) → Q ↔ P → MatchBool fresh (¬ P) P → MatchBool fresh (¬ Q) Q
fresh_is_unused true iff none = λ q. none (iff.0 q)
fresh_is_unused false iff one = iff.1 one

pub returns-clause-added : goal.returns-clause-added
returns-clause-added c =
    let old = c.self.inside.ranges in
    let new = c.insert.new.ranges in
    let ksn = c.args.ksn in
    rw (← c.self.view_is)
    (IfOk-weaker c.insert.result (λ _. HoldsOneMore old ksn new) (λ _. IsOneMore (numbers_in old) ksn (numbers_in new))
    (λ _ more. used_one_more (paths c) old new c.insert.ensures.was_ordered c.insert.ensures.ordered ksn more) c.insert.ensures.added)

pub returns-clause-fresh : goal.returns-clause-fresh
returns-clause-fresh c =
    let old = c.self.inside.ranges in
    let ksn = c.args.ksn in
    let used = used_iff_held (paths c) old c.insert.ensures.was_ordered ksn in
    rw (← c.self.view_is)
    (IfOk-weaker c.insert.result (λ fresh. MatchBool fresh (¬ IsHeld old ksn) (IsHeld old ksn))
    (λ fresh. MatchBool fresh (¬ IsUsed (numbers_in old) ksn) (IsUsed (numbers_in old) ksn))
    (λ fresh held. fresh_is_unused fresh used held) c.insert.ensures.fresh)
