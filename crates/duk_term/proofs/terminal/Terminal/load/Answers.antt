use Rattle.std.proofs.Common.{subst}
use Rattle.std.proofs.lemmas.Result.{err_from_is_err_and}
use Rattle.duk_term.specs.Load.{IsFirstSet, Loading, MayTake, loading_of}
use Rattle.duk_term.specs.Terminal.{TerminalOf}
use Rattle.duk_term.specs.inner.Terminal.{Agrees}
use Rattle.duk_term.proofs.ImageNotKept.{load_done, load_not_done, load_without_key, promises_kept}
use Rattle.duk_term.proofs.terminal.Terminal.load.Goals as goal

abbrev asked : (g : _) → goal.After-keep g → Loading
asked g c = loading_of c.args.loading.now c.args.block.now c.args.iksn

may : (g : _) (c : goal.After-keep g) → MayTake c.args.self.now.state c.args.iksn
may g c = subst (λ (terminal : TerminalOf _). MayTake terminal.state c.args.iksn) c.self.view_is c.in_ok-may_take.ensures.may

agrees : (g : _) (c : goal.After-keep g) → Agrees (g.C.Cell.meaning.state_of c.args.self.now.cell) c.args.self.now.state
agrees g c = subst (λ (terminal : TerminalOf _). Agrees (g.C.Cell.meaning.state_of terminal.cell) terminal.state) c.self.view_is c.self.invariant

first : (g : _) (c : goal.After-keep g) → IsFirstSet (asked g c) c.args.self.now.state c.in_ok-registers.registers
first g c =
    let made = c.in_ok-registers.ensures in
    subst (λ (terminal : TerminalOf _). IsFirstSet (asked g c) terminal.state c.in_ok-registers.registers) c.self.view_is (record {
      initial = c.in_ok-initial.initial;
      wrapped = c.in_ok-initial.ensures.found;
      set_is = c.keep.ensures.set;
      future_keys = made.future_keys;
      iksn_is = made.iksn;
      counter_is = made.counter;
      past_is = made.past;
    })

pub returns-clause-loaded : goal.returns-clause-loaded
returns-clause-loaded g c =
    load_done g.C.Cell.meaning (asked g c) c.args.self.now c.keep.new.self c.in_ok-registers.registers c.keep.result (may g c) (first g c) c.keep.ensures.kept c.keep.ensures.state

pub returns-clause-after_put : goal.returns-clause-after_put
returns-clause-after_put g c = promises_kept g.C.Cell.meaning c.keep.new.self c.in_ok-registers.registers c.keep.result c.keep.ensures.state c.keep.ensures.after_put

pub returns-clause-refused : goal.returns-clause-refused
returns-clause-refused g c =
    load_not_done g.C.Cell.meaning (asked g c) c.args.self.now c.keep.new.self c.in_ok-registers.registers c.keep.result (agrees g c) (may g c) (first g c) c.keep.ensures.refused

pub returns-in_err-initial-clause-refused : goal.returns-in_err-initial-clause-refused
returns-in_err-initial-clause-refused g c =
    let asked : Loading = loading_of c.args.loading.now c.args.block.now c.args.iksn in
    let may = subst (λ (terminal : TerminalOf _). MayTake terminal.state c.args.iksn) c.self.view_is c.in_ok-may_take.ensures.may in
    let p = err_from_is_err_and c.from_residual-in_err-initial.result c.from_residual-in_err-initial.ensures.1 in
    rw (p.1, p.2) (load_without_key g.C.Cell.meaning asked c.args.self.now c.in_err-initial.field-0.0 may c.in_err-initial.ensures.refused)
