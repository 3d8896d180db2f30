-- What a vector holds after its elements were written anew.
use Rattle.std.proofs.Common.{◌≡◌, ℕ, List, length, drop}
use Rattle.std.proofs.lemmas.List.{take_at}
use Rattle.std.specs.List.{refill}

pub refill-same : (size : ℕ) (old new : List ℕ) → length new ≡ size → refill size old new ≡ new
refill-same size old new same = take_at new (drop (length new) old) size same
