use Rattle.std.proofs.Common.{◌≡◌, length}
use Rattle.duk_tdes.specs.Blocks.{blocks_of}
use Rattle.duk_tdes.specs.Tdes.{tdes_encrypted}
use Rattle.duk_mac.specs.Chain.{chained}
use Rattle.duk_mac.specs.Cmac.{with_last_masked, cmac_of}
use Rattle.duk_mac.proofs.cipher_mac.cmac_under.Given as goal

-- the chain so far, along the blocks that are left, gives the MAC
abbrev pub invariant-loop-rest : goal.invariant-loop-rest
invariant-loop-rest g l = chained (tdes_encrypted l.tdes) l.chain (with_last_masked l.tdes (blocks_of l.rest)) ≡ cmac_of l.tdes l.message

abbrev pub decreases-loop-rest : goal.decreases-loop-rest
decreases-loop-rest g l = length l.rest
