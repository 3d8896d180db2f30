-- What a service over a journal leaves of its input, from what it does with each piece of it.
use Rattle.std.proofs.Common.{◌≡◌, ◌<◌, ◌≤◌, ℕ, ◌+◌, List, [], ◌++◌, Option, Result, Ok, Err, OnOk, IfErr, ◌⊎◌, length, inl, inr, sym, subst, arith, append-nil, length-append}
use Rattle.std.specs.Io.KnownBytes.{IsAtEnd}
use Rattle.duk_frame.specs.Stream.{IsPart}
use Rattle.duk_host.specs.Serve.{Supply}
use Rattle.duk_host.specs.declared.fault.HostFault.{HostFault}
use Rattle.duk_host.specs.declared.fault.HostFault.TheVariants as fault
use Rattle.duk_io.specs.Known.{Known}
use Rattle.duk_io.specs.Source.{AreBytesRead, AreReadsMade, IsBroken}
use Rattle.duk_journal_host.specs.Host.{HostMeaning}
use Rattle.duk_journal_host.specs.Serve.{BytesFailed, IsLastRead, IsReadToEnd, IsServed, IsServiceUnread, IsUnserved, Service, ServiceFailed, most_reads}
use Rattle.duk_journal_host.proofs.Serving.{WriteLaws, failed_later, served_none, served_then}

-- what reads leave that come one after another
pub record ReadLaws : Type 0 where
  pub none : (now : Known) → AreBytesRead now now []
  pub next : (before between after : Known) (first second : List ℕ) → AreBytesRead before between first → AreBytesRead between after second → AreBytesRead before after (first ++ second)
  pub broken : (before between after : Known) (first second : List ℕ) → AreBytesRead before between first → IsBroken between after second → IsBroken before after (first ++ second)
  pub no_reads : (now : Option ℕ) → AreReadsMade now now 0
  pub more_reads : (before between after : Option ℕ) (first second : ℕ) → AreReadsMade before between first → AreReadsMade between after second → AreReadsMade before after (first + second)

module _ {J I : Type 0} (meaning : HostMeaning J I) where
  -- so many reads were made, each gave some byte, and what they gave is served
  pub record IsServing (old new : Service J I) (input left : Supply) (rest : List ℕ) (reads : ℕ) : Type 0 where
    pub bytes : List ℕ
    pub read : AreBytesRead input.known left.known bytes
    pub made : AreReadsMade input.reads left.reads reads
    pub no_more : reads ≤ length bytes
    pub served : IsServed meaning old new bytes rest
    pub is_part : IsPart rest

  -- before the first read
  pub start_serving : WriteLaws → ReadLaws → (now : Service J I) (input : Supply) → IsServing now now input input [] 0
  start_serving writes reads now input = record {
    bytes = [];
    read = reads.none input.known;
    made = reads.no_reads input.reads;
    no_more = omega arith;
    served = served_none meaning writes now [];
    is_part = inl (omega arith);
  }

  -- a piece is read and served
  pub next_piece :
      WriteLaws → ReadLaws → (start mid new : Service J I) (input between left : Supply) (rest piece last : List ℕ) (reads : ℕ)
      → IsServing start mid input between rest reads → AreBytesRead between.known left.known piece → AreReadsMade between.reads left.reads 1 → 0 < length piece
      → IsServed meaning mid new (rest ++ piece) last → IsPart last → IsServing start new input left last (reads + 1)
  next_piece writes laws start mid new input between left rest piece last reads serving read made some served part = record {
    bytes = serving.bytes ++ piece;
    read = laws.next input.known between.known left.known serving.bytes piece serving.read read;
    made = laws.more_reads input.reads between.reads left.reads reads 1 serving.made made;
    no_more = omega (arith, length-append serving.bytes piece, serving.no_more, some);
    served = served_then meaning writes start mid new serving.bytes rest piece last serving.served served;
    is_part = part;
  }

  -- one read more that gives nothing
  last_read :
      ReadLaws → (start new : Service J I) (input between left : Supply) (rest : List ℕ) (reads : ℕ)
      → (serving : IsServing start new input between rest reads) → AreReadsMade between.reads left.reads 1 → IsLastRead input left serving.bytes
  last_read laws start new input between left rest reads serving made = record {
    before = reads;
    no_more = serving.no_more;
    made = laws.more_reads input.reads between.reads left.reads reads 1 serving.made made;
  }

  -- the input has ended
  pub read_up :
      ReadLaws → (start new : Service J I) (input between left : Supply) (rest : List ℕ) (reads : ℕ)
      → IsServing start new input between rest reads → AreReadsMade between.reads left.reads 1
      → AreBytesRead between.known left.known [] → IsAtEnd left.known.contents
      → IsReadToEnd meaning start new input left rest
  read_up laws start new input between left rest reads serving made none end = record {
    bytes = serving.bytes;
    read = subst (λ bytes. AreBytesRead input.known left.known bytes) (append-nil serving.bytes) (laws.next input.known between.known left.known serving.bytes [] serving.read none);
    end = end;
    last = last_read laws start new input between left rest reads serving made;
    served = serving.served;
    is_part = serving.is_part;
  }

  -- what is reported where the input has ended between two frames, and inside one
  module _ (start new : Service J I) (input left : Supply) (rest : List ℕ) where
    pub ended : (result : Result (Unit {0}) HostFault) → OnOk result (rest ≡ []) → IsReadToEnd meaning start new input left rest → OnOk result (IsReadToEnd meaning start new input left [])
    ended (Ok done) none read = subst (λ rest. IsReadToEnd meaning start new input left rest) none read
    ended (Err why) none read = tt

    pub cut_off : (result : Result (Unit {0}) HostFault) → IfErr result (λ why. (why ≡ fault.Truncated) × (0 < length rest)) → IsReadToEnd meaning start new input left rest → IfErr result (ServiceFailed meaning start new input left)
    cut_off (Ok done) is read = tt
    cut_off (Err why) is read = subst (λ why. ServiceFailed meaning start new input left why) (sym is.0) (record { rest = rest; read_up = read; inside = is.1 })

  -- a read has failed
  pub broken_off :
      ReadLaws → (start new : Service J I) (input between left : Supply) (rest : List ℕ) (reads : ℕ)
      → IsServing start new input between rest reads → AreReadsMade between.reads left.reads 1
      → IsBroken between.known left.known [] → IsServiceUnread meaning start new input left
  broken_off laws start new input between left rest reads serving made broken = record {
    bytes = serving.bytes;
    rest = rest;
    served = serving.served;
    is_part = serving.is_part;
    cause = inl (record {
      broken = subst (λ bytes. IsBroken input.known left.known bytes) (append-nil serving.bytes) (laws.broken input.known between.known left.known serving.bytes [] serving.read broken);
      last = last_read laws start new input between left rest reads serving made;
    });
  }

  -- all reads are made
  pub all_reads :
      (start new : Service J I) (input left : Supply) (rest : List ℕ) (reads : ℕ)
      → reads ≡ most_reads → IsServing start new input left rest reads → IsServiceUnread meaning start new input left
  all_reads start new input left rest reads all serving = record {
    bytes = serving.bytes;
    rest = rest;
    served = serving.served;
    is_part = serving.is_part;
    cause = inr (record { read = serving.read; made = subst (λ reads. AreReadsMade input.reads left.reads reads) all serving.made; no_more = subst (λ reads. reads ≤ length serving.bytes) all serving.no_more });
  }

  unserved :
      WriteLaws → ReadLaws → (start mid new : Service J I) (input between left : Supply) (rest piece : List ℕ) (reads : ℕ) (why : HostFault)
      → IsServing start mid input between rest reads → AreBytesRead between.known left.known piece
      → BytesFailed meaning mid new (rest ++ piece) why → IsUnserved meaning start new input left why
  unserved writes laws start mid new input between left rest piece reads why serving read failed = record {
    bytes = serving.bytes ++ piece;
    read = laws.next input.known between.known left.known serving.bytes piece serving.read read;
    failed = failed_later meaning writes start mid new serving.bytes rest piece why serving.served failed;
  }

  -- no group of frames fails so
  never_failed : (old new : Service J I) (bytes : List ℕ) → BytesFailed meaning old new bytes fault.Read ⊎ BytesFailed meaning old new bytes fault.Truncated → ⊥
  never_failed old new bytes (inl failed) = failed.failed.refused
  never_failed old new bytes (inr failed) = failed.failed.refused

  -- a piece is not served
  pub piece_failed :
      WriteLaws → ReadLaws → (start mid new : Service J I) (input between left : Supply) (rest piece : List ℕ) (reads : ℕ) (why : HostFault)
      → IsServing start mid input between rest reads → AreBytesRead between.known left.known piece
      → BytesFailed meaning mid new (rest ++ piece) why → ServiceFailed meaning start new input left why
  piece_failed writes laws start mid new input between left rest piece reads fault.NoMemory serving read failed = unserved writes laws start mid new input between left rest piece reads fault.NoMemory serving read failed
  piece_failed writes laws start mid new input between left rest piece reads (fault.Store why) serving read failed = unserved writes laws start mid new input between left rest piece reads (fault.Store why) serving read failed
  piece_failed writes laws start mid new input between left rest piece reads fault.Stopped serving read failed = unserved writes laws start mid new input between left rest piece reads fault.Stopped serving read failed
  piece_failed writes laws start mid new input between left rest piece reads fault.Write serving read failed = unserved writes laws start mid new input between left rest piece reads fault.Write serving read failed
  piece_failed writes laws start mid new input between left rest piece reads fault.TooLong serving read failed = unserved writes laws start mid new input between left rest piece reads fault.TooLong serving read failed
  piece_failed writes laws start mid new input between left rest piece reads fault.Read serving read failed = absurd (never_failed mid new (rest ++ piece) (inl failed))
  piece_failed writes laws start mid new input between left rest piece reads fault.Truncated serving read failed = absurd (never_failed mid new (rest ++ piece) (inr failed))
