use Rattle.std.proofs.Common.{◌≡◌, ◌++◌, length, take, drop}
use Rattle.duk_des.specs.Bytes.{xor_bytes}
use Rattle.duk_des.proofs.bytes.xor_bytes.Given as goal

abbrev pub invariant-loop-i : goal.invariant-loop-i
invariant-loop-i g l = (length l.sum ≡ g.row.N) × (xor_bytes l.bytes l.mask ≡ take l.i l.sum ++ xor_bytes (drop l.i l.sum) (drop l.i l.mask))
