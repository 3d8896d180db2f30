-- What only private functions and proofs say beside `Hexadecimal.antt`: this project's own.
use Rattle.std.specs.Prelude.{ℕ, List, ⊤}
use Rattle.duk_block.specs.Hexadecimal.{IsHexadecimal}
use Rattle.duk_show.specs.Hexadecimal.{IsNoDigitAt}
use Rattle.duk_show.specs.declared.hexadecimal.HexFault.{HexFault}
use Rattle.duk_show.specs.declared.hexadecimal.HexFault.TheVariants.{At, OutOfMemory}

-- why a text gives no bytes
abbrev pub IsHexFault : List ℕ → HexFault → Type 0
IsHexFault text (At place) =
    IsNoDigitAt text place × ((bytes : List ℕ) → ¬ IsHexadecimal text bytes)
IsHexFault text OutOfMemory = ⊤
