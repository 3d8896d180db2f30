-- What several reads leave, from what each of them leaves.
use Rattle.std.proofs.Common.{ℕ, ◌+◌, List, [], ◌++◌, Option, Some, None, ap, arith}
use Rattle.std.proofs.KnownBytes.{Consumes-nil, Consumes-trans}
use Rattle.duk_io.specs.Known.{Known}
use Rattle.duk_io.specs.Source.{AreBytesRead, AreReadsMade, IsBroken}
use Rattle.duk_io.proofs.WritesInTurn.{rose_later, stayed_refl, stayed_twice}

-- no read was made
pub read_none : (a : Known) → AreBytesRead a a []
read_none a = record { given = Consumes-nil a.contents; unfailed = stayed_refl a.failures }

-- bytes were read, and then others
pub read_then : (a b c : Known) (first second : List ℕ) → AreBytesRead a b first → AreBytesRead b c second → AreBytesRead a c (first ++ second)
read_then a b c first second one two = record {
  given = Consumes-trans a.contents b.contents c.contents first second one.given two.given;
  unfailed = stayed_twice a.failures b.failures c.failures one.unfailed two.unfailed;
}

-- bytes were read, and then a read failed
pub broken_later : (a b c : Known) (first second : List ℕ) → AreBytesRead a b first → IsBroken b c second → IsBroken a c (first ++ second)
broken_later a b c first second one two = record {
  given = Consumes-trans a.contents b.contents c.contents first second one.given two.given;
  failed = rose_later a.failures b.failures c.failures one.unfailed two.failed;
}

pub no_reads : (a : Option ℕ) → AreReadsMade a a 0
no_reads None = tt
no_reads (Some count) = ap Some (omega arith)

pub more_reads : (a b c : Option ℕ) (first second : ℕ) → AreReadsMade a b first → AreReadsMade b c second → AreReadsMade a c (first + second)
more_reads None b c first second one two = tt
more_reads (Some n) None c first second one two = cc one
more_reads (Some n) (Some m) c first second one two = grind (arith, one, two)
