-- An input that is read piece by piece, and what its lines are answered.
use Rattle.std.proofs.Common.{◌≡◌, ◌⊎◌, ◌<◌, ◌≤◌, ◌+◌, ℕ, Bool, true, List, [], ◌++◌, length, Option, Result, Ok, Err, inl, inr, sym, subst, ◌∙◌, length-append, append-nil, arith}
use Rattle.std.specs.Io.KnownBytes.{IsAtEnd}
use Rattle.duk_io.specs.Known.{Known}
use Rattle.duk_io.specs.Sink.{IsWritten}
use Rattle.duk_io.specs.Source.{AreBytesRead, AreReadsMade, IsBroken}
use Rattle.duk_commands.specs.Item.{ItemCommand}
use Rattle.duk_commands.specs.Batch.{AreAllReads, Input, IsLastRead, IsReadBroken, input_of, most_reads}
use Rattle.duk_commands.specs.inner.Batch.{IsCutOff, IsEnd, IsToldOf, IsUnderWay, IsUnread, end_of}
use Rattle.duk_commands.specs.declared.batch.run.End.TheVariants.{Unread, Unwritten}
use Rattle.duk_commands.proofs.AnswersInTurn.{WriteLaws}
use Rattle.duk_commands.proofs.BatchUnderWay.{cut_lines, start}

-- what the laws of reading say
pub record ReadLaws : Type 0 where
  pub none : (now : Known) → AreBytesRead now now []
  pub next : (before between after : Known) (first second : List ℕ) → AreBytesRead before between first → AreBytesRead between after second → AreBytesRead before after (first ++ second)
  pub broken : (before between after : Known) (first second : List ℕ) → AreBytesRead before between first → IsBroken between after second → IsBroken before after (first ++ second)
  pub no_reads : (now : Option ℕ) → AreReadsMade now now 0
  pub more_reads : (before between after : Option ℕ) (first second : ℕ) → AreReadsMade before between first → AreReadsMade between after second → AreReadsMade before after (first + second)

-- so many reads gave bytes, and the lines that ended in them are answered
pub record IsReading (command : List ℕ → ItemCommand) (input : Input) (count : ℕ) (line : List ℕ) (done : Bool) (before now : Known) : Type 0 where
  pub bytes : List ℕ
  pub read : AreBytesRead input.before input.after bytes
  pub made : AreReadsMade input.reads_before input.reads_after count
  pub no_more : count ≤ length bytes
  pub way : IsUnderWay command bytes line done [] before now

pub start_reading : (command : List ℕ → ItemCommand) (writes : WriteLaws) (reads : ReadLaws) (input : Known) (count : Option ℕ) (output : Known)
    → IsReading command (input_of input input count count) 0 [] true output output
start_reading command writes reads input count output = record {
  bytes = [];
  read = reads.none input;
  made = reads.no_reads count;
  no_more = omega arith;
  way = start command writes output;
}

-- a piece more
pub piece_read : (command : List ℕ → ItemCommand) (reads : ReadLaws) (input between after : Known) (count count' count'' : Option ℕ) (made : ℕ) (line line' : List ℕ) (done done' : Bool)
    (before now now' : Known) (piece : List ℕ) → IsReading command (input_of input between count count') made line done before now
    → AreBytesRead between after piece → AreReadsMade count' count'' 1 → 0 < length piece
    → ((bytes : List ℕ) → IsUnderWay command bytes line done [] before now → IsUnderWay command (bytes ++ piece) line' done' [] before now')
    → IsReading command (input_of input after count count'') (made + 1) line' done' before now'
piece_read command reads input between after count count' count'' made line line' done done' before now now' piece so_far read one some taken = record {
  bytes = so_far.bytes ++ piece;
  read = reads.next input between after so_far.bytes piece so_far.read read;
  made = reads.more_reads count count' count'' made 1 so_far.made one;
  no_more = omega (arith, so_far.no_more, length-append so_far.bytes piece);
  way = taken so_far.bytes so_far.way;
}

-- whose answers are cut
pub piece_cut : (command : List ℕ → ItemCommand) (reads : ReadLaws) (input between after : Known) (count count' count'' : Option ℕ) (made : ℕ) (line : List ℕ) (done : Bool)
    (before now now' : Known) (piece : List ℕ) → IsReading command (input_of input between count count') made line done before now
    → AreBytesRead between after piece
    → ((bytes : List ℕ) → IsUnderWay command bytes line done [] before now → IsCutOff command (bytes ++ piece) before now')
    → IsEnd command (input_of input after count count'') before now' Unwritten
piece_cut command reads input between after count count' count'' made line done before now now' piece so_far read cut =
    (so_far.bytes ++ piece, (reads.next input between after so_far.bytes piece so_far.read read).given, cut_lines command (so_far.bytes ++ piece) before now' (cut so_far.bytes so_far.way))

-- the end
pub all_read : {E : Type 0} (command : List ℕ → ItemCommand) (reads : ReadLaws) (input between after : Known) (count count' count'' : Option ℕ) (made : ℕ) (line : List ℕ) (done : Bool)
    (before now now' : Known) (last : Result Bool E) → IsReading command (input_of input between count count') made line done before now
    → AreBytesRead between after [] → IsAtEnd after.contents → AreReadsMade count' count'' 1
    → ((bytes : List ℕ) → IsUnderWay command bytes line done [] before now → IsToldOf command bytes before now' last)
    → IsEnd command (input_of input after count count'') before now' (end_of last)
all_read command reads input between after count count' count'' made line done before now now' (Ok all) so_far read at_end one told =
    let whole = subst (AreBytesRead input after) (append-nil so_far.bytes) (reads.next input between after so_far.bytes [] so_far.read read) in (
      so_far.bytes,
      record {
        read = whole;
        end = at_end;
        last = record { earlier = made; no_more = so_far.no_more; made = reads.more_reads count count' count'' made 1 so_far.made one };
      },
      told so_far.bytes so_far.way,
    )
all_read command reads input between after count count' count'' made line done before now now' (Err failed) so_far read at_end one told =
    let whole = subst (AreBytesRead input after) (append-nil so_far.bytes) (reads.next input between after so_far.bytes [] so_far.read read) in
    (so_far.bytes, whole.given, told so_far.bytes so_far.way)

unread : (command : List ℕ → ItemCommand) (input : Input) (line : List ℕ) (done : Bool) (before now : Known) (bytes : List ℕ)
    → IsReadBroken input bytes ⊎ AreAllReads input bytes → IsUnderWay command bytes line done [] before now → IsUnread command input bytes before now
unread command input line done before now bytes cause way = record {
  ended = way.ended;
  rest = way.rest;
  cause = cause;
  within = way.within;
  goes_on = way.goes_on;
  answers = way.answered.answers;
  right = way.answered.right;
  was_written = subst (λ text. IsWritten before now text) (sym (way.answered.text_is ∙ append-nil way.answered.written)) way.answered.was_written;
}

-- a read failed
pub read_broken : (command : List ℕ → ItemCommand) (reads : ReadLaws) (input between after : Known) (count count' count'' : Option ℕ) (made : ℕ) (line : List ℕ) (done : Bool)
    (before now : Known) → IsReading command (input_of input between count count') made line done before now
    → IsBroken between after [] → AreReadsMade count' count'' 1 → IsEnd command (input_of input after count count'') before now Unread
read_broken command reads input between after count count' count'' made line done before now so_far broken one =
    let broken_off = subst (IsBroken input after) (append-nil so_far.bytes) (reads.broken input between after so_far.bytes [] so_far.read broken) in
    let last : IsLastRead (input_of input after count count'') so_far.bytes = record { earlier = made; no_more = so_far.no_more; made = reads.more_reads count count' count'' made 1 so_far.made one } in
    (so_far.bytes, unread command (input_of input after count count'') line done before now so_far.bytes (inl (record { broken = broken_off; last = last })) so_far.way)

-- no more reads are made
pub reads_made : (command : List ℕ → ItemCommand) (input : Input) (made : ℕ) (line : List ℕ) (done : Bool) (before now : Known) → made ≡ most_reads
    → IsReading command input made line done before now → IsEnd command input before now Unread
reads_made command input made line done before now all so_far = (
  so_far.bytes,
  unread command input line done before now so_far.bytes (inr (record {
    read = so_far.read;
    made = subst (AreReadsMade input.reads_before input.reads_after) all so_far.made;
    no_more = subst (λ n. n ≤ length so_far.bytes) all so_far.no_more;
  })) so_far.way,
)
