-- What several reads give, from what each of them gives.
use Rattle.std.proofs.Common.{◌++◌, [], ℕ, List, Option, Some, None, sym, ap, ◌∙◌, append_assoc}
use Rattle.std.specs.Io.KnownBytes.{Consumes}
use Rattle.duk_io.specs.Known.{Rose, Stayed, Known}
use Rattle.duk_io.specs.Source.{AreBytesRead, IsBroken}
use Rattle.duk_script.specs.WholeText.{IsReadTooFar, ReadRefused}
use Rattle.duk_script.specs.inner.WholeText.{IsPieceTooLong, PieceRefused}
use Rattle.duk_config.specs.declared.fault.ScriptFault.{ScriptFault}
use Rattle.duk_config.specs.declared.fault.ScriptFault.TheVariants as fault

-- what two reads leave of a count of failures
abbrev pub StaysThrough : Type 0
StaysThrough = (a b c : Option ℕ) → Stayed a b → Stayed b c → Stayed a c

abbrev pub RisesThrough : Type 0
RisesThrough = (a b c : Option ℕ) → Stayed a b → Rose b c → Rose a c

consumes_then : (a b c : Option (List ℕ)) (first second : List ℕ) → Consumes a b first → Consumes b c second → Consumes a c (first ++ second)
consumes_then None b c first second one two = tt
consumes_then (Some x) None c first second one two = absurd one
consumes_then (Some x) (Some y) None first second one two = absurd two
consumes_then (Some x) (Some y) (Some z) first second one two = one ∙ ap (λ rest. first ++ rest) two ∙ sym (append_assoc first second z)

-- more is read
pub read_then : StaysThrough → (a b c : Known) (first second : List ℕ) → AreBytesRead a b first → AreBytesRead b c second → AreBytesRead a c (first ++ second)
read_then stays a b c first second one two = record {
  given = consumes_then a.contents b.contents c.contents first second one.given two.given;
  unfailed = stays a.failures b.failures c.failures one.unfailed two.unfailed;
}

-- a read failed after others
pub broken_later : RisesThrough → (a b c : Known) (first : List ℕ) → AreBytesRead a b first → IsBroken b c [] → IsBroken a c (first ++ [])
broken_later rises a b c first one broken = record {
  given = consumes_then a.contents b.contents c.contents first [] one.given broken.given;
  failed = rises a.failures b.failures c.failures one.unfailed broken.failed;
}

-- too much is read after other pieces
pub too_far_later : StaysThrough → (a b c : Known) (first : List ℕ) → AreBytesRead a b first → IsPieceTooLong b c first → IsReadTooFar a c
too_far_later stays a b c first one far = record {
  bytes = first ++ far.piece;
  read = read_then stays a b c first far.piece one far.read;
  too_long = far.too_long;
}

-- a piece that is not read ends the reading
pub read_refused : StaysThrough → RisesThrough → (a b c : Known) (before : List ℕ) (why : ScriptFault) → AreBytesRead a b before → PieceRefused b c before why → ReadRefused a c why
read_refused stays rises a b c before fault.CannotRead read refused = (before ++ [], broken_later rises a b c before read refused)
read_refused stays rises a b c before fault.TooLong read refused = too_far_later stays a b c before read refused
read_refused stays rises a b c before fault.NoMemory read refused = refused
read_refused stays rises a b c before fault.ConfigTooLong read refused = absurd refused
read_refused stays rises a b c before fault.NotToml read refused = absurd refused
read_refused stays rises a b c before (fault.UnknownKey name) read refused = absurd refused
read_refused stays rises a b c before (fault.BadKey key) read refused = absurd refused
read_refused stays rises a b c before (fault.BadEntry key place) read refused = absurd refused
read_refused stays rises a b c before (fault.NotAnEvent line) read refused = absurd refused
read_refused stays rises a b c before fault.WriteFailed read refused = absurd refused
