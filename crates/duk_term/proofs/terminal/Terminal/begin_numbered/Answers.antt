use Rattle.std.proofs.Common.{refl, rules}
use Rattle.std.proofs.lemmas.Result.{err_from_is_err_and}
use Rattle.duk_term.proofs.ImageNotKept.{begin_stopped}
use Rattle.duk_term.proofs.terminal.Terminal.begin_numbered.Goals as goal

pub returns-in_err-keep-clause-refused : goal.returns-in_err-keep-clause-refused
returns-in_err-keep-clause-refused g c =
    let p = err_from_is_err_and c.from_residual-in_err-keep.result c.from_residual-in_err-keep.ensures.1 in
    let taken = c.in_ok-key.ensures.taken in
    rw (p.1, p.2, ← c.self.view_is) (begin_stopped g.C.Cell.meaning _ (record { cell = c.self.inside.cell; state = c.take_number.new.self }) c.keep.new.self taken.0 c.in_ok-key.left c.in_ok-key.key _ c.self.invariant taken.1 refl c.in_err-keep.ensures.sixteen c.in_err-keep.ensures.refused)

pub returns-clause-begun : goal.returns-clause-begun
returns-clause-begun g c =
    let taken = c.in_ok-key.ensures.taken in
    rw (← c.self.view_is) (record {
      begun = record {
        set = taken.0;
        key = c.in_ok-key.key;
        left = c.in_ok-key.left;
        takes = taken.1;
        left_are = search rules;
        purchase_is = search rules;
        frame_is = search rules;
        state_is = search rules;
        kept = search rules;
      };
      ksn_is = taken.2;
    })
