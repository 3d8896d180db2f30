use Rattle.std.proofs.Common.{◌≡◌, [], refl, ◌∙◌, rules, arith}
use Rattle.std.proofs.lemmas.List.Elements.{All-nil}
use Rattle.duk_commands.specs.Find.{NoneMakesAt}
use Rattle.duk_commands.specs.inner.Search.{search_in}
use Rattle.duk_commands.proofs.ProgressLines.{none_told}
use Rattle.duk_commands.proofs.SearchSteps.{found_here, tried_more, vain_all, vain_spent}
use Rattle.duk_commands.proofs.search.first_among.Goals as goal
use Rattle.duk_tree.specs.Next.{spent_counter}
use Rattle.duk_tree.specs.Path.{IsUsable}

pub loop-tried-init : goal.loop-tried-init
loop-tried-init g c = record {
  same_iksn = refl;
  so_far = λ initial numbers keys left. record {
    seen = [];
    rest = numbers;
    numbers_are = refl;
    length_is = refl;
    none = All-nil (NoneMakesAt (search_in c.args.sought.now initial c.args.registers.iksn numbers));
    left = left;
    future_keys = keys;
  };
  told = none_told c.args.sought.now c.args.most 0 _ refl;
}

pub loop-tried-preserved : goal.loop-tried-preserved
loop-tried-preserved g c = record {
  same_iksn = c.in_ok-taken.ensures.taken.same_iksn ∙ c.loop-tried.invariant.same_iksn;
  so_far = λ initial numbers keys left.
      let here = search_in c.args.sought.now initial c.args.registers.iksn numbers in
      let has = c.loop-tried.invariant.so_far initial numbers keys left in
      let never : ¬ IsUsable spent_counter = λ usable. absurd (omega (arith, (c.bits.ensures.usable spent_counter usable).0)) in
      tried_more here c.loop-tried.tried c.loop-tried.registers c.use_next.new.self c.in_ok-taken.taken.0 never has (record {
        usable = c.in_ok-taken.ensures.usable;
        same_iksn = c.loop-tried.invariant.same_iksn;
        taken = c.in_ok-taken.ensures.taken;
        key_is = (c.in_ok-taken.ensures.future_keys initial has.future_keys).0;
        future_keys = (c.in_ok-taken.ensures.future_keys initial has.future_keys).1;
      }) c.in_default.ensures.none;
  told = c.tell_progress.ensures _ c.loop-tried.invariant.told;
}

pub returns-in_err-taken-clause-none : goal.returns-in_err-taken-clause-none
returns-in_err-taken-clause-none g c initial numbers keys left =
    let here = search_in c.args.sought.now initial c.args.registers.iksn numbers in
    let has = c.loop-tried.invariant.so_far initial numbers keys left in
    let never : ¬ IsUsable spent_counter = λ usable. absurd (omega (arith, (c.bits.ensures.usable spent_counter usable).0)) in
    let spent : c.loop-tried.registers.counter ≡ spent_counter = search rules in
    let vain = vain_spent here c.args.most c.loop-tried.tried c.loop-tried.registers never spent (omega arith) has _ _ c.loop-tried.invariant.told in
    search (rules, vain)

pub returns-in-Some-clause-found : goal.returns-in-Some-clause-found
returns-in-Some-clause-found g c initial numbers keys left =
    let here = search_in c.args.sought.now initial c.args.registers.iksn numbers in
    let has = c.loop-tried.invariant.so_far initial numbers keys left in
    let never : ¬ IsUsable spent_counter = λ usable. absurd (omega (arith, (c.bits.ensures.usable spent_counter usable).0)) in
    found_here here c.args.most c.loop-tried.tried c.loop-tried.registers c.use_next.new.self c.in_ok-taken.taken.0 c.in_ok-taken.taken.1
    c.in-Some.origin never (omega arith) has (record {
      usable = c.in_ok-taken.ensures.usable;
      same_iksn = c.loop-tried.invariant.same_iksn;
      taken = c.in_ok-taken.ensures.taken;
      key_is = (c.in_ok-taken.ensures.future_keys initial has.future_keys).0;
      future_keys = (c.in_ok-taken.ensures.future_keys initial has.future_keys).1;
    }) c.in_ok-taken.ensures.serial c.in-Some.ensures.first _ _ (c.tell_progress.ensures _ c.loop-tried.invariant.told)

pub returns-clause-none : goal.returns-clause-none
returns-clause-none g c initial numbers keys left =
    let here = search_in c.args.sought.now initial c.args.registers.iksn numbers in
    vain_all here c.args.most c.loop-tried.tried c.loop-tried.registers (omega arith) (c.loop-tried.invariant.so_far initial numbers keys left) _ _ c.loop-tried.invariant.told
