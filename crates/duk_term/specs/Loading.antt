-- The key block that a terminal is loaded from: ANSI X9.143 in version B, with this project's own
-- choice of uses; and by which fault a terminal says why it is not loaded.
use Rattle.std.specs.Prelude.{ℕ, List}
use Rattle.duk_block.specs.KeyBlock.{WrapsFor, WrapsOther}
use Rattle.duk_block.specs.KeyUse.{IsDoubleKeyFor}
use Rattle.duk_block.specs.declared.fault.KeyFault.{KeyFault}
use Rattle.duk_block.specs.declared.fault.KeyFault.TheVariants as key_fault
use Rattle.duk_block.specs.declared.key_use.KeyUse.TheVariants.{InitialKey}
use Rattle.duk_regs.specs.declared.fault.ReloadFault.{ReloadFault}
use Rattle.duk_regs.specs.declared.fault.ReloadFault.TheVariants as reload_fault
use Rattle.duk_term.specs.declared.fault.TermFault.{TermFault}
use Rattle.duk_term.specs.declared.fault.TermFault.TheVariants as fault

-- the text is a key block of this initial key
abbrev pub WrapsInitialKey : List ℕ → List ℕ → List ℕ → Type 0
WrapsInitialKey loading text initial = WrapsFor (IsDoubleKeyFor InitialKey) loading text initial

-- the text is a key block of another key
abbrev pub WrapsOtherKey : List ℕ → List ℕ → Type 0
WrapsOtherKey loading text = WrapsOther (IsDoubleKeyFor InitialKey) loading text

-- the fault of a terminal where a key block has no initial key
abbrev pub term_fault_of : KeyFault → TermFault
term_fault_of (key_fault.Block why) = fault.Block why
term_fault_of key_fault.WrongUse = fault.WrongUse

-- the fault of a terminal whose registers are not loaded again
abbrev pub reload_fault_of : ReloadFault → TermFault
reload_fault_of reload_fault.IksnSpent = fault.IksnSpent
reload_fault_of reload_fault.LoadsSpent = fault.LoadsSpent
