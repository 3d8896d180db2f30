-- What a service leaves of its input, from what it does with each piece of it.
use Rattle.std.proofs.Common.{◌≡◌, ◌<◌, ◌≤◌, ℕ, ◌+◌, List, [], ◌++◌, Option, Result, Ok, Err, IfOk, IfErr, length, inl, inr, sym, subst, arith, append-nil, length-append}
use Rattle.std.specs.Io.KnownBytes.{IsAtEnd}
use Rattle.duk_frame.specs.Stream.{IsPart}
use Rattle.duk_io.specs.Known.{Known}
use Rattle.duk_io.specs.Source.{AreBytesRead, AreReadsMade, IsBroken}
use Rattle.duk_host.specs.Host.{HostMeaning}
use Rattle.duk_host.specs.Serve.{BytesFailed, IsLastRead, IsReadToEnd, IsServed, IsServiceUnread, IsUnserved, Service, ServiceFailed, Supply, most_reads}
use Rattle.duk_host.specs.declared.fault.HostFault.{HostFault}
use Rattle.duk_host.specs.declared.fault.HostFault.TheVariants as fault
use Rattle.duk_host.proofs.ServedInTurn.{WriteLaws, failed_later, served_none, served_then}

-- what reads leave that come one after another
pub record ReadLaws : Type 0 where
  pub none : (now : Known) → AreBytesRead now now []
  pub next : (before between after : Known) (first second : List ℕ) → AreBytesRead before between first → AreBytesRead between after second → AreBytesRead before after (first ++ second)
  pub broken : (before between after : Known) (first second : List ℕ) → AreBytesRead before between first → IsBroken between after second → IsBroken before after (first ++ second)
  pub no_reads : (now : Option ℕ) → AreReadsMade now now 0
  pub more_reads : (before between after : Option ℕ) (first second : ℕ) → AreReadsMade before between first → AreReadsMade between after second → AreReadsMade before after (first + second)

-- so many reads were made, each gave some byte, and what they gave is served
pub record IsServing
    {L I : Type 0} (meaning : HostMeaning L I) (old new : Service L I) (input left : Supply) (rest : List ℕ) (count reads : ℕ) : Type 0 where
  pub bytes : List ℕ
  pub read : AreBytesRead input.known left.known bytes
  pub made : AreReadsMade input.reads left.reads reads
  pub no_more : reads ≤ length bytes
  pub served : IsServed meaning old new bytes rest count
  pub is_part : IsPart rest

-- before the first read
pub start_serving : {L I : Type 0} (meaning : HostMeaning L I) → WriteLaws → ReadLaws → (now : Service L I) (input : Supply) → IsServing meaning now now input input [] 0 0
start_serving meaning writes reads now input = record {
  bytes = [];
  read = reads.none input.known;
  made = reads.no_reads input.reads;
  no_more = omega arith;
  served = served_none meaning writes now [];
  is_part = inl (omega arith);
}

-- a piece is read and served
pub next_piece :
    {L I : Type 0} (meaning : HostMeaning L I) → WriteLaws → ReadLaws → (start mid new : Service L I) (input between left : Supply) (rest piece last : List ℕ) (count more reads : ℕ)
    → IsServing meaning start mid input between rest count reads → AreBytesRead between.known left.known piece → AreReadsMade between.reads left.reads 1 → 0 < length piece
    → IsServed meaning mid new (rest ++ piece) last more → IsPart last → IsServing meaning start new input left last (count + more) (reads + 1)
next_piece meaning writes reads_laws start mid new input between left rest piece last count more reads serving read made some served part = record {
  bytes = serving.bytes ++ piece;
  read = reads_laws.next input.known between.known left.known serving.bytes piece serving.read read;
  made = reads_laws.more_reads input.reads between.reads left.reads reads 1 serving.made made;
  no_more = omega (arith, length-append serving.bytes piece, serving.no_more, some);
  served = served_then meaning writes start mid new serving.bytes rest piece last count more serving.served served;
  is_part = part;
}

-- one read more that gives nothing
last_read :
    {L I : Type 0} (meaning : HostMeaning L I) → ReadLaws → (start new : Service L I) (input between left : Supply) (rest : List ℕ) (count reads : ℕ)
    → (serving : IsServing meaning start new input between rest count reads) → AreReadsMade between.reads left.reads 1 → reads < most_reads → IsLastRead input left serving.bytes
last_read meaning laws start new input between left rest count reads serving made within = record {
  before = reads;
  made = laws.more_reads input.reads between.reads left.reads reads 1 serving.made made;
  no_more = serving.no_more;
  within = within;
}

-- the input has ended
pub read_up :
    {L I : Type 0} (meaning : HostMeaning L I) → ReadLaws → (start new : Service L I) (input between left : Supply) (rest : List ℕ) (count reads : ℕ)
    → IsServing meaning start new input between rest count reads → AreReadsMade between.reads left.reads 1 → reads < most_reads
    → AreBytesRead between.known left.known [] → IsAtEnd left.known.contents
    → IsReadToEnd meaning start new input left rest count
read_up meaning laws start new input between left rest count reads serving made within none end = record {
  bytes = serving.bytes;
  read = subst (λ bytes. AreBytesRead input.known left.known bytes) (append-nil serving.bytes) (laws.next input.known between.known left.known serving.bytes [] serving.read none);
  end = end;
  last = last_read meaning laws start new input between left rest count reads serving made within;
  served = serving.served;
  is_part = serving.is_part;
}

-- what is reported where the input has ended between two frames, and inside one
module _ {L I : Type 0} (meaning : HostMeaning L I) (start new : Service L I) (input left : Supply) (rest : List ℕ) (count : ℕ) where
  pub ended : (result : Result ℕ HostFault) → IfOk result (λ reported. (reported ≡ count) × (rest ≡ [])) → IsReadToEnd meaning start new input left rest count → IfOk result (IsReadToEnd meaning start new input left [])
  ended (Ok reported) is read = subst (λ reported. IsReadToEnd meaning start new input left [] reported) (sym is.0) (subst (λ rest. IsReadToEnd meaning start new input left rest count) is.1 read)
  ended (Err why) is read = tt

  pub cut_off : (result : Result ℕ HostFault) → IfErr result (λ why. (why ≡ fault.Truncated) × (0 < length rest)) → IsReadToEnd meaning start new input left rest count → IfErr result (ServiceFailed meaning start new input left)
  cut_off (Ok reported) is read = tt
  cut_off (Err why) is read = subst (λ why. ServiceFailed meaning start new input left why) (sym is.0) (record { rest = rest; count = count; read_up = read; inside = is.1 })

-- a read has failed
pub broken_off :
    {L I : Type 0} (meaning : HostMeaning L I) → ReadLaws → (start new : Service L I) (input between left : Supply) (rest : List ℕ) (count reads : ℕ)
    → IsServing meaning start new input between rest count reads → AreReadsMade between.reads left.reads 1 → reads < most_reads
    → IsBroken between.known left.known [] → IsServiceUnread meaning start new input left
broken_off meaning laws start new input between left rest count reads serving made within broken = record {
  bytes = serving.bytes;
  rest = rest;
  count = count;
  served = serving.served;
  is_part = serving.is_part;
  cause = inl (record {
    broken = subst (λ bytes. IsBroken input.known left.known bytes) (append-nil serving.bytes) (laws.broken input.known between.known left.known serving.bytes [] serving.read broken);
    last = last_read meaning laws start new input between left rest count reads serving made within;
  });
}

-- all reads are made
pub all_reads :
    {L I : Type 0} (meaning : HostMeaning L I) (start new : Service L I) (input left : Supply) (rest : List ℕ) (count reads : ℕ)
    → reads ≡ most_reads → IsServing meaning start new input left rest count reads → IsServiceUnread meaning start new input left
all_reads meaning start new input left rest count reads all serving = record {
  bytes = serving.bytes;
  rest = rest;
  count = count;
  served = serving.served;
  is_part = serving.is_part;
  cause = inr (record { read = serving.read; made = subst (λ reads. AreReadsMade input.reads left.reads reads) all serving.made; no_more = subst (λ reads. reads ≤ length serving.bytes) all serving.no_more });
}

unserved :
    {L I : Type 0} (meaning : HostMeaning L I) → WriteLaws → ReadLaws → (start mid new : Service L I) (input between left : Supply) (rest piece : List ℕ) (count reads : ℕ) (why : HostFault)
    → IsServing meaning start mid input between rest count reads → AreBytesRead between.known left.known piece
    → BytesFailed meaning mid new (rest ++ piece) why → IsUnserved meaning start new input left why
unserved meaning writes laws start mid new input between left rest piece count reads why serving read failed = record {
  bytes = serving.bytes ++ piece;
  read = laws.next input.known between.known left.known serving.bytes piece serving.read read;
  failed = failed_later meaning writes start mid new serving.bytes rest piece count why serving.served failed;
}

-- a piece is not served
pub piece_failed :
    {L I : Type 0} (meaning : HostMeaning L I) → WriteLaws → ReadLaws → (start mid new : Service L I) (input between left : Supply) (rest piece : List ℕ) (count reads : ℕ) (why : HostFault)
    → IsServing meaning start mid input between rest count reads → AreBytesRead between.known left.known piece
    → BytesFailed meaning mid new (rest ++ piece) why → ServiceFailed meaning start new input left why
piece_failed meaning writes laws start mid new input between left rest piece count reads fault.NoMemory serving read failed = unserved meaning writes laws start mid new input between left rest piece count reads fault.NoMemory serving read failed
piece_failed meaning writes laws start mid new input between left rest piece count reads (fault.Store why) serving read failed = unserved meaning writes laws start mid new input between left rest piece count reads (fault.Store why) serving read failed
piece_failed meaning writes laws start mid new input between left rest piece count reads fault.Stopped serving read failed = unserved meaning writes laws start mid new input between left rest piece count reads fault.Stopped serving read failed
piece_failed meaning writes laws start mid new input between left rest piece count reads fault.Write serving read failed = unserved meaning writes laws start mid new input between left rest piece count reads fault.Write serving read failed
piece_failed meaning writes laws start mid new input between left rest piece count reads fault.TooLong serving read failed = unserved meaning writes laws start mid new input between left rest piece count reads fault.TooLong serving read failed
piece_failed meaning writes laws start mid new input between left rest piece count reads fault.Read serving read failed = absurd failed.failed.refused
piece_failed meaning writes laws start mid new input between left rest piece count reads fault.Truncated serving read failed = absurd failed.failed.refused
