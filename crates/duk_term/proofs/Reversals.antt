-- What may be reversed.
use Rattle.std.proofs.Common.{◌≡◌, Option, Some, ap, arith, subst, sym, ◌∙◌}
use Rattle.duk_regs.specs.Registers.{RegisterSet}
use Rattle.duk_reversal.specs.Numbers.{Numbers, Reverses}
use Rattle.duk_tree.specs.Serial.{Serial}
use Rattle.duk_term.specs.Reversal.{ComesBefore, HasUsed, MayReverse, numbers_of}
use Rattle.duk_term.specs.declared.state.Pending.{Pending}
use Rattle.duk_term.specs.declared.state.State.{State}
use Rattle.duk_term.specs.declared.state.State.TheVariants.{Loaded}
use Rattle.duk_term.specs.inner.Reversal.{IsReversalFrom}

-- a number may be reversed where a reversal has its numbers
pub may_reverse : (state : State) (reversed : Serial) (numbers : Numbers) → IsReversalFrom state reversed numbers → MayReverse state reversed
may_reverse state reversed numbers from =
    record { set = from.set; pending = from.pending; had = from.had; has_number = from.has_number; used = from.used }

-- a number that comes before another is reversed by it
pub reverses : (ksn reversed : Serial) → ComesBefore reversed ksn → Reverses ksn reversed
reverses ksn reversed before = record { same_iksn = before.same_iksn; other = λ same. omega (arith, before.below, same); usable = before.usable }

-- a state has one set of registers
same_set : (one other : RegisterSet) (a b : Option Pending) → Loaded one a ≡ Loaded other b → one ≡ other
same_set one other a b same = cc

-- what was asked of the registers is so of those that the number is taken from
pub of_set : (state : State) (reversed : Serial) (numbers : Numbers) (set : RegisterSet) (pending : Option Pending) → IsReversalFrom state reversed numbers → state ≡ Loaded set pending
    → HasUsed set reversed × (numbers ≡ numbers_of set reversed)
of_set state reversed numbers set pending from had =
    let same : from.set ≡ set = same_set from.set set from.pending pending (sym from.had ∙ had) in
    (subst (λ (set : RegisterSet). HasUsed set reversed) same from.used, from.numbers_are ∙ ap (λ (set : RegisterSet). numbers_of set reversed) same)
