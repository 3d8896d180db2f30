-- Which faults of its cell a terminal reports: this project's own.
use Rattle.std.specs.Prelude.{◌≡◌}
use Rattle.duk_store.specs.declared.fault.StoreFault.{StoreFault}
use Rattle.duk_term.specs.declared.fault.TermFault.{TermFault}
use Rattle.duk_term.specs.declared.fault.TermFault.TheVariants as term_fault

-- a terminal refused since its cell failed so
abbrev pub IsCellFault : TermFault → StoreFault → Type 0
IsCellFault (term_fault.Store why) fault = why ≡ fault
IsCellFault _ fault = ⊥
