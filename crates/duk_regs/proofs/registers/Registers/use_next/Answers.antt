use Rattle.std.proofs.Common.{get_or, sym, ap, ◌∙◌, subst}
use Rattle.std.specs.Int.{trailing_zeros, w32}
use Rattle.duk_tree.specs.Derivation.{transaction_key_of}
use Rattle.duk_tree.specs.Path.{IsUsable}
use Rattle.duk_regs.specs.Registers.{RegisterSet, IsTaken, AreFutureKeysOf}
use Rattle.duk_regs.proofs.CounterBounds.{BitLaws, usable_counter}
use Rattle.duk_regs.proofs.OneRegisterWritten.{taken_by}
use Rattle.duk_regs.proofs.registers.Registers.use_next.Goals as goal

pub invariant_of-self : goal.invariant_of-self
invariant_of-self c =
    let laws : BitLaws = record { usable = c.bits.ensures.usable; place = c.bits.ensures.place; ones = c.bits.ensures.ones; lowest = c.bits.ensures.lowest } in
    let before : RegisterSet = record { iksn = c.self.inside.iksn; counter = c.self.inside.counter; registers = c.self.inside.registers; past = c.self.inside.past } in
    let is_usable = usable_counter before.counter c.self.invariant.counter_is c.if-counter-eq-SPENT.false in
    let fill = c.fill_below.ensures in
    let taken = taken_by laws before c.index-self-place.result c.no_key.result c.next_usable.result c.fill_below.new.registers is_usable c.self.invariant.are_21 c.no_key.ensures fill.are_21 fill.filled fill.not_filled fill.others_stay c.next_usable.ensures.found c.next_usable.ensures.none in
    rw c.unwrap_or-self-inside.ensures (c.transactions.ensures.set before _ _ is_usable taken c.self.invariant)

pub returns-clause-usable : goal.returns-clause-usable
returns-clause-usable c =
    let is_usable = usable_counter c.self.inside.counter c.self.invariant.counter_is c.if-counter-eq-SPENT.false in
    subst (λ (old : RegisterSet). IsUsable old.counter) c.self.view_is is_usable

pub returns-clause-taken : goal.returns-clause-taken
returns-clause-taken c =
    let laws : BitLaws = record { usable = c.bits.ensures.usable; place = c.bits.ensures.place; ones = c.bits.ensures.ones; lowest = c.bits.ensures.lowest } in
    let before : RegisterSet = record { iksn = c.self.inside.iksn; counter = c.self.inside.counter; registers = c.self.inside.registers; past = c.self.inside.past } in
    let is_usable = usable_counter before.counter c.self.invariant.counter_is c.if-counter-eq-SPENT.false in
    let fill = c.fill_below.ensures in
    let taken = taken_by laws before c.index-self-place.result c.no_key.result c.next_usable.result c.fill_below.new.registers is_usable c.self.invariant.are_21 c.no_key.ensures fill.are_21 fill.filled fill.not_filled fill.others_stay c.next_usable.ensures.found c.next_usable.ensures.none in
    let key = get_or c.self.inside.registers (trailing_zeros w32 c.self.inside.counter) c.index-self-place.result in
    let left : RegisterSet = record { iksn = c.self.inside.iksn; counter = c.unwrap_or-self-inside.result; registers = c.fill_below.new.registers; past = c.self.inside.past } in
    let here : IsTaken before key left = rw c.unwrap_or-self-inside.ensures taken in
    subst (λ old. IsTaken old key left) c.self.view_is here

pub returns-clause-future_keys : goal.returns-clause-future_keys
returns-clause-future_keys c =
    let laws : BitLaws = record { usable = c.bits.ensures.usable; place = c.bits.ensures.place; ones = c.bits.ensures.ones; lowest = c.bits.ensures.lowest } in
    let before : RegisterSet = record { iksn = c.self.inside.iksn; counter = c.self.inside.counter; registers = c.self.inside.registers; past = c.self.inside.past } in
    let is_usable = usable_counter before.counter c.self.invariant.counter_is c.if-counter-eq-SPENT.false in
    let fill = c.fill_below.ensures in
    let taken = taken_by laws before c.index-self-place.result c.no_key.result c.next_usable.result c.fill_below.new.registers is_usable c.self.invariant.are_21 c.no_key.ensures fill.are_21 fill.filled fill.not_filled fill.others_stay c.next_usable.ensures.found c.next_usable.ensures.none in
    λ initial future_keys.
    let stands_before : AreFutureKeysOf initial before = subst (AreFutureKeysOf initial) (sym c.self.view_is) future_keys in (
      c.transactions.ensures.key initial before _ _ is_usable taken stands_before ∙ ap (λ (old : RegisterSet). transaction_key_of initial old.iksn old.counter) c.self.view_is,
      rw c.unwrap_or-self-inside.ensures (c.transactions.ensures.future_keys initial before _ _ is_usable taken stands_before),
    )
