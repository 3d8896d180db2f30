use Rattle.std.proofs.Common.{◌≡◌, ℕ, List}
use Rattle.duk_regs.specs.Registers.{AreFutureKeysOf}
use Rattle.duk_commands.specs.inner.Search.{AreLeft, IsProgressTold, search_in}
use Rattle.duk_commands.proofs.SearchSteps.{HasTried}
use Rattle.duk_commands.proofs.search.first_among.Given as goal

-- so many of the counters that were left were tried, the terminal goes on behind them, and the
-- progress was told
abbrev pub invariant-loop-tried : goal.invariant-loop-tried
invariant-loop-tried g l = record {
  same_iksn : l.registers.iksn ≡ l.fn.registers.iksn;
  so_far : (initial numbers : List ℕ) → AreFutureKeysOf initial l.fn.registers
      → AreLeft l.fn.registers.counter numbers
      → HasTried (search_in l.sought initial l.fn.registers.iksn numbers) l.tried l.registers;
  told : IsProgressTold l.sought l.most l.tried (g.F.Sink.known l.fn.fault) (g.F.Sink.known l.fault);
}
