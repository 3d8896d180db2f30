use Rattle.std.proofs.Common.{rules, subst, sym}
use Rattle.duk_regs.specs.Registers.{AreFutureKeysOf}
use Rattle.duk_calls.proofs.registers.registers_next.Goals as goal

pub returns : goal.returns
returns c = (
  search rules,
  record {
    number = record { image_is = search rules; usable = search rules };
    set = c.use_next.new.self;
    key = c.in-Some-use_next.next_key;
    taken = search rules;
    stored = search rules;
    key_written = search rules;
    ksn_is = search rules;
    key_is = λ initial held. search rules;
    future_keys = λ initial held.
        let same : AreFutureKeysOf initial c.in-Some.registers = subst (AreFutureKeysOf initial) (sym c.in-Some.ensures.1) held in
        (c.in-Some-use_next.ensures.future_keys initial same).1;
  },
)
