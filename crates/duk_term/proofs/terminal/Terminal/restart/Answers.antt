use Rattle.std.proofs.Common.{inr, refl, sym, subst}
use Rattle.std.proofs.lemmas.Result.{err_from_is_err_and}
use Rattle.duk_store.specs.Restart.{Restarted}
use Rattle.duk_term.specs.inner.Terminal.{Agrees}
use Rattle.duk_term.proofs.BodyIsFoundAgain.{if_read, none_found}
use Rattle.duk_term.proofs.terminal.Terminal.restart.Goals as goal
use Rattle.duk_term.proofs.terminal.Terminal.restart.Goals.{in-None, in-Some+in_ok-ok_or-in-Some}

pub invariant_of-self-2 : goal.invariant_of-self-2
invariant_of-self-2 g c =
    let meaning = g.C.Cell.meaning in
    let settles = c.in-Ok.ensures.found.settles in
    let agrees = Agrees (meaning.state_of c.restart.new.self) in
    elim c.match-kept.branch [
      | in-None w ↦ subst agrees (sym w.self-is) (record { runs = settles.runs; finds = λ honest. rw (← w.in-None.is) (settles.finds (settles.nature.honest.1 honest)) })
      | in-Some+in_ok-ok_or-in-Some w ↦
          let keeps = if_read w.registers_in.result w.in_ok-ok_or-in-Some.field-0 _ _ w.ok_or.result w.ok_or.ensures.value w.in_ok-ok_or-in-Some.was w.registers_in.ensures.keeps in
          subst agrees (sym w.self-is) (record {
            runs = settles.runs;
            finds = λ honest. (c.in-Ok.kept, settles.finds (settles.nature.honest.1 honest), (w.in-Some.body, w.in-Some.is, keeps));
          })
    ]

pub returns-in_err-ok_or-in-Some-clause-refused : goal.returns-in_err-ok_or-in-Some-clause-refused
returns-in_err-ok_or-in-Some-clause-refused g c =
    let meaning = g.C.Cell.meaning in
    let p = err_from_is_err_and c.from_residual.result c.from_residual.ensures.1 in
    let none = none_found c.registers_in.result _ c.in_err-ok_or-in-Some.field-0.0 c.ok_or.result c.ok_or.ensures.value c.in_err-ok_or-in-Some.was c.registers_in.ensures.found in
    rw (p.1, p.2, none.0, ← c.self.view_is) (record {
      stopped = refl;
      cause = inr (
        refl,
        record {
          bytes = c.in-Some.body;
          cell = subst (Restarted (meaning.state_of c.self.inside.cell) (meaning.state_of c.restart.new.self)) c.in-Some.is c.in-Ok.ensures.found;
          no_body = none.1;
        },
      );
    })
