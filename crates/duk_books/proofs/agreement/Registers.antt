-- The registers of a till, beside the lists: the numbers that purchases took are used.
use Rattle.std.proofs.Common.{ℕ, Option, Contains}
use Rattle.duk_regs.specs.Registers.{RegisterSet}
use Rattle.duk_stations.proofs.Numbers.{RegistersHold as UsedBehind, SetHolds as UsedBehindSet, registers_beside as used_beside}
use Rattle.duk_books.proofs.agreement.Facts.{GrowBeside, Lists}

abbrev pub SetHolds : Lists → ℕ → RegisterSet → Type 0
SetHolds lists t = UsedBehindSet (Contains lists.begun) lists.owners t

abbrev pub RegistersHold : Lists → ℕ → Option RegisterSet → Type 0
RegistersHold lists t = UsedBehind (Contains lists.begun) lists.owners t

-- so they do where lists grow beside the till
pub registers_beside : (t : ℕ) (old new : Lists) → GrowBeside t old new → (it : Option RegisterSet) → RegistersHold old t it → RegistersHold new t it
registers_beside t old new grow it holds =
    used_beside t (Contains old.begun) old.owners (Contains new.begun) new.owners (record { owner = λ iksn is. grow.owner iksn t is; was_used = grow.begun }) it holds
