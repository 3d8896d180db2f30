-- The check values by which two holders of a key compare it (ANSI X9.24-1:2017 annex A).
use Rattle.std.specs.Prelude.{ℕ, List, take}
use Rattle.duk_tdes.specs.Tdes.{tdes_encrypted}
use Rattle.duk_mac.specs.Chain.{zero_block}
use Rattle.duk_mac.specs.Cmac.{cmac_of}

-- the check value (KCV): the first three bytes of a block of zeros, enciphered
abbrev pub check_value_of : List ℕ → List ℕ
check_value_of key = take 3 (tdes_encrypted key zero_block)

-- the check value by CMAC: the first five bytes of the CMAC of a block of zeros
abbrev pub cmac_check_value_of : List ℕ → List ℕ
cmac_check_value_of key = take 5 (cmac_of key zero_block)
