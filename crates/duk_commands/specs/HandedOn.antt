-- The end of a command, where what its output still holds back is handed on (this project's own).
use Rattle.std.specs.Prelude.{◌≡◌, ◌⊎◌, Err, Result}
use Rattle.std.specs.Io.KnownBytes.{Keeps}
use Rattle.duk_io.specs.Known.{Known, Rose}
use Rattle.duk_io.specs.Sink.{IsUntouched}

-- what was held back could not be handed on, and the bytes are the same
pub record IsFlushLost (old new : Known) : Type 0 where
  pub bytes : Keeps old.contents new.contents
  pub failed : Rose old.failures new.failures

-- a command ends as it did, and what it wrote is handed on; or that is lost, and it ends with the
-- fault that says so
abbrev pub IsEndOf : {T E : Type 0} → Result T E → E → Result T E → Known → Known → Type 0
IsEndOf ended lost end old new =
    ((end ≡ ended) × IsUntouched old new) ⊎ ((end ≡ Err lost) × IsFlushLost old new)

-- what a command came to when its output made this known, which was then handed on
pub record HasHandedOn (Came : Known → Type 0) (new : Known) : Type 0 where
  pub written : Known
  pub came : Came written
  pub kept : IsUntouched written new

-- the same, and it could not be handed on
pub record HasLost (Came : Known → Type 0) (new : Known) : Type 0 where
  pub written : Known
  pub came : Came written
  pub lost : IsFlushLost written new

-- why a command is not done, by what it comes to when it is and when it is not: for the cause that it
-- had, or since what it wrote is lost
abbrev pub HasFailed : {E : Type 0} → (Known → Type 0) → (E → Known → Type 0) → E → E → Known → Type 0
HasFailed {E} Done NotDone lost why new =
    HasHandedOn (NotDone why) new
    ⊎ ((why ≡ lost) × HasLost (λ written. Done written ⊎ ((cause : E) × NotDone cause written)) new)
