-- The lines that report why components are refused, or what is made of them (this project's own).
use Rattle.std.specs.Prelude.{◌+◌, ◌%◌, ℕ, List, [], ◌∷◌, ◌++◌, codes}
use Rattle.duk_commands.specs.Fault.{line_end, report_line}
use Rattle.duk_components.specs.declared.fault.ComponentFault.{ComponentFault}
use Rattle.duk_components.specs.declared.fault.ComponentFault.TheVariants.{Component, Number, Random, Weak, Wrap}

-- what a component is called by its place, which is one digit
abbrev pub numbered : ℕ → List ℕ
numbered place = codes "component " ++ (48 + place % 10) ∷ []

-- the line of a fault
abbrev pub component_fault_line : ComponentFault → List ℕ
component_fault_line Number = codes "components refused" ++ line_end
component_fault_line (Component place) = numbered place ++ codes " refused" ++ line_end
component_fault_line Weak = codes "LMK weak" ++ line_end
component_fault_line Random = codes "random refused" ++ line_end
component_fault_line (Wrap why) = report_line why
