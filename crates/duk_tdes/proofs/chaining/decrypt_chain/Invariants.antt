use Rattle.std.proofs.Common.{◌≡◌, ◌≤◌, ◌-◌, ◌%◌, ◌++◌, length, take, drop}
use Rattle.duk_tdes.specs.Cbc.{cbc_decrypted}
use Rattle.duk_tdes.proofs.chaining.decrypt_chain.Given as goal

-- what is done, and after it what is to be done
abbrev pub invariant-loop-place : goal.invariant-loop-place
invariant-loop-place g l = record {
  kept : length l.bytes ≡ length l.fn.bytes;
  within : l.place ≤ length l.bytes;
  whole : l.place % 8 ≡ 0;
  same : take l.place l.bytes ++ cbc_decrypted l.tdes l.before (drop l.place l.bytes) ≡ cbc_decrypted l.tdes l.fn.iv l.fn.bytes;
}

abbrev pub decreases-loop-place : goal.decreases-loop-place
decreases-loop-place g l = length l.bytes - l.place
