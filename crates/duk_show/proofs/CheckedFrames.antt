-- Why a frame is not shown with a key.
use Rattle.std.proofs.Common.{List, Ok, Err, IfErr, Result, ℕ}
use Rattle.std.specs.Prelude.{IsSome}
use Rattle.duk_block.specs.Hexadecimal.{IsHexadecimal}
use Rattle.duk_commands.specs.KeyArgument.{key_in}
use Rattle.duk_commands.specs.declared.key_argument.KeyArgument.{KeyArgument}
use Rattle.duk_show.specs.CheckedFrame.{IsCheckRefused}
use Rattle.duk_show.specs.declared.fault.ShowFault.{ShowFault}
use Rattle.duk_show.specs.declared.fault.ShowFault.TheVariants.{FrameRefused, KsnRefused}
use Rattle.duk_show.specs.inner.CheckedFrame.{IsBytesRefused}
use Rattle.duk_show.proofs.FrameStops.{no_frame, stops_at}

pub check_refused : {T : Type 0} (given : KeyArgument) (frame bytes : List ℕ) (made : Result T ShowFault) → IsSome (key_in given)
    → IsHexadecimal frame bytes → IfErr made (IsBytesRefused bytes) → IfErr made (IsCheckRefused given frame)
check_refused given frame bytes (Ok lines) key read cause = tt
check_refused given frame bytes (Err (FrameRefused place why)) key read cause =
    (key, (stops_at frame bytes place why cause.2 read cause.1 cause.0, no_frame frame bytes read cause.3))
check_refused given frame bytes (Err KsnRefused) key read cause = (key, (bytes, read, cause))
check_refused given frame bytes (Err why) key read cause = absurd cause
