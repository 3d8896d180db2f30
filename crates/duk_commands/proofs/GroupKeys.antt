-- The keys of many numbers that are derived together.
use Rattle.std.proofs.Common.{◌≡◌, ◌<◌, ◌^◌, ℕ, List, length, take, arith}
use Rattle.std.specs.List.{All}
use Rattle.std.proofs.lemmas.List.{length-take-le}
use Rattle.std.proofs.lemmas.List.Elements.{All-take}
use Rattle.duk_des.specs.Block.{IsBlock}

-- the first eight bytes of ten are a block
pub first_eight : (bytes : List ℕ) → length bytes ≡ 10 → All (λ byte. byte < 2 ^ 8) bytes → IsBlock (take 8 bytes)
first_eight bytes ten fit = record {
  eight = length-take-le 8 bytes (omega (arith, ten));
  bytes_fit = All-take (λ byte. byte < 2 ^ 8) 8 bytes fit;
}
