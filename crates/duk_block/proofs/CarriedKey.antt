-- The key that a payload carries.
use Rattle.std.proofs.Common.{◌≡◌, ℕ, ◌*◌, ◌<◌, ◌^◌, List, ◌++◌, length, take, drop, sym, ap, ◌∙◌}
use Rattle.std.specs.List.{All}
use Rattle.std.specs.Int.{w16, to_be_bytes}
use Rattle.std.proofs.lemmas.List.{append_assoc, take-append-drop}
use Rattle.duk_tdes.specs.Tdes.{IsTdesLength}
use Rattle.duk_block.specs.Faults.{Carries}

pub carries : (payload key : List ℕ) (size : ℕ) → IsTdesLength size → length key ≡ size → All (λ byte. byte < 2 ^ 8) key
    → take 2 payload ≡ to_be_bytes w16 (8 * size) → key ≡ take size (drop 2 payload) → Carries payload key
carries payload key size lawful width fit bits is = record {
  padding = drop size (drop 2 payload);
  key_is = record { length_is = rw width lawful; bytes_fit = fit };
  payload_is =
      sym (take-append-drop 2 payload)
      ∙ ap (λ rest. take 2 payload ++ rest) (sym (take-append-drop size (drop 2 payload)))
      ∙ sym (append_assoc (take 2 payload) (take size (drop 2 payload)) (drop size (drop 2 payload)))
      ∙ ap (λ part. part ++ take size (drop 2 payload) ++ drop size (drop 2 payload)) (bits ∙ ap (λ n. to_be_bytes w16 (8 * n)) (sym width))
      ∙ ap (λ part. to_be_bytes w16 (8 * length key) ++ part ++ drop size (drop 2 payload)) (sym is);
}
