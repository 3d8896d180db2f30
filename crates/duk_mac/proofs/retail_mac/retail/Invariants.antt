use Rattle.std.proofs.Common.{◌≡◌, ◌<◌, length}
use Rattle.duk_des.specs.Des.{des_encrypted}
use Rattle.duk_tdes.specs.Blocks.{blocks_of}
use Rattle.duk_mac.specs.Chain.{zero_block, chained}
use Rattle.duk_mac.specs.Retail.{zero_filled}
use Rattle.duk_mac.proofs.retail_mac.retail.Given as goal

abbrev pub invariant-loop-rest : goal.invariant-loop-rest
invariant-loop-rest l = record {
  some : 0 < length l.rest;
  same : chained (des_encrypted l.left) l.chain (blocks_of (zero_filled l.rest)) ≡ chained (des_encrypted l.left) zero_block (blocks_of (zero_filled l.message));
}

abbrev pub decreases-loop-rest : goal.decreases-loop-rest
decreases-loop-rest l = length l.rest
