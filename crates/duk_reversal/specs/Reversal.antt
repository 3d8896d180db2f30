-- Reversal frames: a format of this project's own.
use Rattle.std.specs.Prelude.{◌≡◌, ℕ, List, ◌∷◌, ◌++◌}
use Rattle.duk_des.specs.Block.{IsBlock}
use Rattle.duk_frame.specs.Frame.{framed}
use Rattle.duk_reversal.specs.Numbers.{Numbers, AreNumbers, number_bytes}
use Rattle.duk_reversal.specs.declared.reversal.Reversal.{Reversal}

-- the contents of a reversal before its MAC: version 1 and kind 4, and the two numbers
abbrev pub reversal_text : Numbers → List ℕ
reversal_text numbers = 1 ∷ 4 ∷ number_bytes numbers

-- the fields of a reversal are what their names say
pub record AreReversalFields (reversal : Reversal) : Type 0 where
  pub numbers_are : AreNumbers reversal.numbers
  pub mac_is : IsBlock reversal.mac

-- the frame of a reversal
abbrev pub reversal_bytes : Reversal → List ℕ
reversal_bytes reversal = framed (reversal_text reversal.numbers ++ reversal.mac)

-- the bytes are the frame of this reversal
pub record IsReversal (bytes : List ℕ) (reversal : Reversal) : Type 0 where
  pub fields : AreReversalFields reversal
  pub laid_out : bytes ≡ reversal_bytes reversal
