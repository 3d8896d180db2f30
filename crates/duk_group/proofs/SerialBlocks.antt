-- Eight bytes of a key serial number are a block.
use Rattle.std.proofs.Common.{◌≡◌, ◌<◌, ◌≤◌, ◌^◌, ℕ, List, length, take, drop, arith}
use Rattle.std.specs.List.{All}
use Rattle.std.proofs.lemmas.List.{length-take-le, length-drop}
use Rattle.std.proofs.lemmas.List.Elements.{All-take, All-drop}
use Rattle.duk_des.specs.Block.{IsBlock}

pub eight_of_ten : (start : ℕ) (bytes : List ℕ) → start ≤ 2 → length bytes ≡ 10 → All (λ byte. byte < 2 ^ 8) bytes
    → IsBlock (take 8 (drop start bytes))
eight_of_ten start bytes within ten fit = record {
  eight = length-take-le 8 (drop start bytes) (omega (arith, length-drop start bytes));
  bytes_fit = All-take (λ byte. byte < 2 ^ 8) 8 (drop start bytes) (All-drop (λ byte. byte < 2 ^ 8) start bytes fit);
}
