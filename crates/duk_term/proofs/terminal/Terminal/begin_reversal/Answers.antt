use Rattle.std.proofs.Common.{refl, rules, ap, ◌∙◌}
use Rattle.std.proofs.lemmas.Result.{err_from_is_err_and}
use Rattle.duk_reversal.specs.Authentic.{reversal_under}
use Rattle.duk_term.proofs.ImageNotKept.{reversal_stopped}
use Rattle.duk_term.proofs.Reversals.{may_reverse, of_set}
use Rattle.duk_term.proofs.terminal.Terminal.begin_reversal.Goals as goal

pub returns-in_err-keep-clause-refused : goal.returns-in_err-keep-clause-refused
returns-in_err-keep-clause-refused g c =
    let p = err_from_is_err_and c.from_residual-in_err-keep.result c.from_residual-in_err-keep.ensures.1 in
    let taken = c.in_ok-key.ensures.taken in
    let may = may_reverse _ _ _ c.in_ok-numbers.ensures.numbers in
    rw (p.1, p.2, ← c.self.view_is) (reversal_stopped g.C.Cell.meaning c.args.reversed _ (record { cell = c.self.inside.cell; state = c.take_number.new.self }) c.keep.new.self taken.0 c.in_ok-key.left c.in_ok-key.key _ c.self.invariant may taken.1 refl c.in_err-keep.ensures.sixteen c.in_err-keep.ensures.refused)

pub returns-clause-begun : goal.returns-clause-begun
returns-clause-begun g c =
    let taken = c.in_ok-key.ensures.taken in
    let asked = of_set _ _ _ taken.0 taken.1.pending c.in_ok-numbers.ensures.numbers taken.1.had in
    let same = ap (λ numbers. reversal_under c.in_ok-key.key numbers) asked.1 in
    rw (← c.self.view_is) (record {
      set = taken.0;
      key = c.in_ok-key.key;
      left = c.in_ok-key.left;
      takes = taken.1;
      left_are = search rules;
      used = asked.0;
      ksn_is = taken.2;
      frame_is = c.reversal_under.ensures.frame ∙ same;
      state_is = search rules;
      kept = search rules;
    })
