-- A text that is not shown whole, or not handed on.
use Rattle.std.proofs.Common.{◌⊎◌, ℕ, List, Result, Ok, Err, OnErr, OnOk, inl, inr}
use Rattle.duk_commands.specs.HandedOn.{HasHandedOn, HasLost, IsEndOf}
use Rattle.duk_io.specs.Known.{Known}
use Rattle.duk_io.specs.Sink.{IsCut, IsWritten}
use Rattle.duk_program.specs.Program.{IsBegun}

begun : {V E : Type 0} (text : List ℕ) (before written : Known) (ended : Result V E) → OnOk ended (IsWritten before written text)
    → OnErr ended (IsCut before written text) → IsBegun text before written
begun text before written (Ok done) is cut = inl is
begun text before written (Err why) is cut = inr cut

pub in_part : {V E : Type 0} (text : List ℕ) (before written after : Known) (ended : Result V E) (lost why : E) → OnOk ended (IsWritten before written text)
    → OnErr ended (IsCut before written text) → IsEndOf ended lost (Err why) written after
    → HasHandedOn (λ written. IsCut before written text) after ⊎ HasLost (IsBegun text before) after
in_part text before written after (Ok done) lost why is cut (inl end) = absurd (cc end.0)
in_part text before written after (Err other) lost why is cut (inl end) = inl (record { written = written; came = cut; kept = end.1 })
in_part text before written after ended lost why is cut (inr end) =
    inr (record { written = written; came = begun text before written ended is cut; lost = end.1 })
