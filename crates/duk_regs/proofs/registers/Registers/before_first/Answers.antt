use Rattle.std.proofs.Common.{refl, inl}
use Rattle.duk_regs.specs.Registers.{IsRegisterSet, RegisterSet, AreFutureKeysOf}
use Rattle.duk_regs.proofs.registers.Registers.before_first.Goals as goal

abbrev made : goal.After-first_registers → RegisterSet
made c = record { iksn = c.args.iksn; counter = 1; registers = c.first_registers.result; past = c.args.past }

future_keys : (c : goal.After-first_registers) → AreFutureKeysOf c.args.initial.now (made c)
future_keys c = c.first.ensures.future_keys c.args.initial.now (made c) refl c.first_registers.ensures.are_21 c.first_registers.ensures.keys

is_set : (c : goal.After-first_registers) → IsRegisterSet (made c)
is_set c =
    record {
      iksn_is = c.first_registers.ensures.iksn;
      counter_is = inl c.first.ensures.usable;
      are_21 = c.first_registers.ensures.are_21;
      leaves_empty = (future_keys c).leaves_empty;
      past_are_iksns = c.requires.iksns;
      past_are_at_most_8 = c.requires.at_most_8;
      past_are_different = c.requires.different;
      iksn_is_not_past = c.requires.not_past;
    }

pub invariant_of-result : goal.invariant_of-result
invariant_of-result c = is_set c

pub returns-clause-future_keys : goal.returns-clause-future_keys
returns-clause-future_keys c = future_keys c

pub returns-clause-set : goal.returns-clause-set
returns-clause-set c = is_set c
