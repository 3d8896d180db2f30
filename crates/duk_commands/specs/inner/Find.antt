-- What only private functions and proofs say beside `Find.antt`: this project's own.
use Rattle.duk_commands.specs.declared.find_fault.FindFault.{FindFault}
use Rattle.duk_commands.specs.declared.find_fault.FindFault.TheVariants.{BdkRefused, InitialRefused}
use Rattle.duk_commands.specs.declared.key_argument.KeyArgument.{KeyArgument}
use Rattle.duk_commands.specs.declared.key_argument.KeyArgument.TheVariants.{Base, Initial}

-- the fault of an argument that writes no key
abbrev pub find_key_fault : KeyArgument → FindFault
find_key_fault (Base text) = BdkRefused
find_key_fault (Initial text) = InitialRefused
