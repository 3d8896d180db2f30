-- What only private functions and proofs say beside `Mac.antt`: this project's own.
use Rattle.std.specs.Prelude.{◌≡◌, ℕ, Bool, false, List, []}
use Rattle.duk_commands.specs.Mac.{IsMacKey}
use Rattle.duk_commands.specs.declared.fault.Fault.{Fault}
use Rattle.duk_commands.specs.declared.fault.Fault.TheVariants.{KeyRefused, TextRefused}

-- why the MAC of a message is refused: the key that a text writes, or else that there is no byte
abbrev pub IsMessageRefused : Bool → List ℕ → List ℕ → Fault → Type 0
IsMessageRefused by_cmac key message KeyRefused = ¬ IsMacKey by_cmac key
IsMessageRefused by_cmac key message TextRefused =
    IsMacKey by_cmac key × (by_cmac ≡ false) × (message ≡ [])
IsMessageRefused by_cmac key message fault = ⊥
