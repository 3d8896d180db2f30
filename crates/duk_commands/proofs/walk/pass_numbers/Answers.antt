use Rattle.std.proofs.Common.{◌≡◌, ◌+◌, suc, inr, subst, ◌∙◌, rules, arith}
use Rattle.duk_tree.specs.Next.{spent_counter}
use Rattle.duk_commands.specs.Walk.{IsPassed}
use Rattle.duk_commands.proofs.WalkedText.{spent_within}
use Rattle.duk_commands.proofs.walk.pass_numbers.Goals as goal

pub returns-in_err-pass-clause-spent : goal.returns-in_err-pass-clause-spent
returns-in_err-pass-clause-spent c none =
    let spent : c.loop-passed.keys.counter ≡ spent_counter = search rules in
    spent_within c.args.keys.now c.loop-passed.keys c.loop-passed._passed c.args.skip (omega arith) spent c.loop-passed.invariant.lines

pub loop-passed-preserved : goal.loop-passed-preserved
loop-passed-preserved c =
    let goes_on = c.in_ok-pass.ensures.goes_on in
    record {
      same_initial = goes_on.same_initial ∙ c.loop-passed.invariant.same_initial;
      same_iksn = goes_on.same_iksn ∙ c.loop-passed.invariant.same_iksn;
      lines = λ line more count text printed.
          let next : c.loop-passed._passed + suc more ≡ c.loop-passed._passed + 1 + more = omega arith in
          subst (λ n. IsPassed line c.args.keys.now.counter n count text) next
          (c.loop-passed.invariant.lines line (suc more) count text (inr (c.pass.new.self.counter, c.in_ok-pass.ensures.usable, goes_on.next_counter, printed)));
    }

pub returns-clause-passed : goal.returns-clause-passed
returns-clause-passed c is_some = record {
  same_initial = c.loop-passed.invariant.same_initial;
  same_iksn = c.loop-passed.invariant.same_iksn;
  lines = λ line count text printed.
      let all : c.loop-passed._passed + 0 ≡ c.args.skip = omega arith in
      subst (λ n. IsPassed line c.args.keys.now.counter n count text) all (c.loop-passed.invariant.lines line 0 count text printed);
}
