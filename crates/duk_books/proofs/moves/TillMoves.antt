-- What the calls of a till are to its terminal: moves of a station.
use Rattle.std.proofs.Common.{◌≡◌, inl, inr, ℕ, List, Ok, Err, ap}
use Rattle.duk_store.specs.Cell.{CellMeaning}
use Rattle.duk_term.specs.Load.{Loading}
use Rattle.duk_term.specs.declared.answer.Answer.TheVariants as answer
use Rattle.duk_term.specs.declared.answer.ReversalAnswer.TheVariants as reversal
use Rattle.duk_term.specs.declared.fault.TermFault.TheVariants as term_fault
use Rattle.duk_term.specs.declared.purchase.Purchase.{Purchase}
use Rattle.duk_till.specs.Begin.{TillBeginRefused}
use Rattle.duk_till.specs.Lifetime.{ArmBook, ArmTerminal, Begin, Call, IsCalled, Load, Reply, Restart, Reverse, ReversalReply, Stop}
use Rattle.duk_till.specs.Load.{TillLoadRefused}
use Rattle.duk_till.specs.Reply.{TillReplyRefused}
use Rattle.duk_till.specs.Restart.{TillRestartRefused}
use Rattle.duk_till.specs.Reversal.{TillReversalReplyRefused, TillReverseRefused}
use Rattle.duk_till.specs.Till.{TillOf}
use Rattle.duk_till.specs.declared.fault.TillFault.{TillFault}
use Rattle.duk_till.specs.declared.fault.TillFault.TheVariants as fault
use Rattle.duk_stations.specs.inner.Moves.{Goes, GoesLoaded, GoesOn, is_armed, not_loaded, reopens, unmoved, waits_no_more}
use Rattle.duk_stations.proofs.Terminals.{begin_goes, load_goes, request_takes, restart_goes, reversal_goes, reversal_takes}
use Rattle.duk_books.specs.Books.{Frame}
use Rattle.duk_books.proofs.moves.StepChanges.{IsQuiet, IsTelling}

-- a call that is no load, and not the end of a process
abbrev pub IsMove : Call → Type 0
IsMove (Load asked result) = ⊥
IsMove Stop = ⊥
IsMove _ = Unit {0}

pub quiet_is_move : (call : Call) → IsQuiet call → IsMove call
quiet_is_move (Load asked result) quiet = quiet
quiet_is_move Stop quiet = quiet
quiet_is_move _ quiet = tt

pub telling_is_move : (answers : List Frame) (call : Call) → IsTelling answers call → IsMove call
telling_is_move answers (Load asked result) telling = telling
telling_is_move answers Stop telling = telling
telling_is_move answers _ telling = tt

module _ {C B : Type 0} (cell : CellMeaning C) (book : CellMeaning B) (old new : TillOf C B) where
  abbrev TerminalGoes : Type 0
  TerminalGoes = Goes cell old.terminal new.terminal

  -- the till stays as it was
  stays : new ≡ old → TerminalGoes
  stays is = unmoved (ap (λ (it : TillOf C B). it.terminal) is)

  begin_fails : (purchase : Purchase) (why : TillFault) → TillBeginRefused cell book purchase old new why → GoesOn cell old.terminal new.terminal
  begin_fails purchase fault.Stopped is = inl (stays is.1)
  begin_fails purchase fault.Open is = inl (stays is.1)
  begin_fails purchase fault.NothingOpen is = absurd is
  begin_fails purchase (fault.Terminal why) is = inl (elim is.1 [
    | inl spent ↦ stays spent.2
    | inr fails ↦ begin_goes cell old.terminal new.terminal why fails.0
  ])
  begin_fails purchase (fault.Store why) is = inr (request_takes cell old.terminal new.terminal purchase is.frame is.terminal.begun)

  reverse_fails : (why : TillFault) → TillReverseRefused cell old new why → TerminalGoes
  reverse_fails fault.Stopped is = stays is.1
  reverse_fails fault.NothingOpen is = stays is.1
  reverse_fails (fault.Terminal why) is = reversal_goes cell old.terminal new.terminal is.0.0 why is.0.3
  reverse_fails _ is = absurd is

  reply_fails : (bytes : List ℕ) (why : TillFault) → TillReplyRefused book bytes old new why → TerminalGoes
  reply_fails bytes fault.Stopped is = stays is.1
  reply_fails bytes fault.Open is = absurd is
  reply_fails bytes fault.NothingOpen is = stays is.1
  reply_fails bytes (fault.Terminal why) is = stays is.1
  reply_fails bytes (fault.Store why) is = waits_no_more is.terminal

  reversal_reply_fails : (bytes : List ℕ) (why : TillFault) → TillReversalReplyRefused book bytes old new why → TerminalGoes
  reversal_reply_fails bytes fault.Stopped is = stays is.1
  reversal_reply_fails bytes fault.Open is = absurd is
  reversal_reply_fails bytes fault.NothingOpen is = stays is.1
  reversal_reply_fails bytes (fault.Terminal why) is = stays is.1
  reversal_reply_fails bytes (fault.Store why) is = waits_no_more is.terminal

  restart_fails : (why : TillFault) → TillRestartRefused cell book old new why → TerminalGoes
  restart_fails (fault.Terminal why) is = restart_goes cell old.terminal new.terminal why is.0
  restart_fails (fault.Store why) is = reopens is.0
  restart_fails _ is = absurd is

  pub call_goes : (call : Call) → IsMove call → IsCalled cell book call old new → GoesOn cell old.terminal new.terminal
  call_goes (Begin purchase (Ok it)) moves is = inr (request_takes cell old.terminal new.terminal purchase it.frame.items is.terminal.begun)
  call_goes (Begin purchase (Err why)) moves is = begin_fails purchase why is
  call_goes (Reverse (Ok it)) moves is = inr (reversal_takes cell old.terminal new.terminal is.reversed it.ksn it.frame.items is.terminal)
  call_goes (Reverse (Err why)) moves is = inl (reverse_fails why is)
  call_goes (Reply bytes (Ok (answer.Done code))) moves is = inl (waits_no_more is.terminal)
  call_goes (Reply bytes (Ok (answer.Refused reason))) moves is = inl (stays is.same)
  call_goes (Reply bytes (Err why)) moves is = inl (reply_fails bytes why is)
  call_goes (ReversalReply bytes (Ok (reversal.Done found))) moves is = inl (waits_no_more is.terminal)
  call_goes (ReversalReply bytes (Ok (reversal.Refused reason))) moves is = inl (stays is.same)
  call_goes (ReversalReply bytes (Err why)) moves is = inl (reversal_reply_fails bytes why is)
  call_goes (Restart (Ok told)) moves is = inl (reopens is.0.terminal)
  call_goes (Restart (Err why)) moves is = inl (restart_fails why is)
  call_goes (ArmTerminal steps) moves is = inl (is_armed is.stays is.terminal)
  call_goes (ArmBook steps) moves is = inl (unmoved is.terminal)
  call_goes (Load asked result) moves is = absurd moves
  call_goes Stop moves is = absurd moves

  -- a load that is refused
  pub load_fails : (owned : Type 0) (asked : Loading) (why : TillFault) → ((store : _) → why ≡ fault.Terminal (term_fault.Store store) → owned) → TillLoadRefused cell asked old new why → GoesLoaded cell owned asked old.terminal new.terminal
  load_fails owned asked fault.Stopped owns is = not_loaded (ap (λ (it : TillOf C B). it.terminal) is.1)
  load_fails owned asked fault.Open owns is = not_loaded (ap (λ (it : TillOf C B). it.terminal) is.1)
  load_fails owned asked fault.NothingOpen owns is = absurd is
  load_fails owned asked (fault.Terminal why) owns is = load_goes cell old.terminal new.terminal owned asked why (λ store why_is. owns store (ap fault.Terminal why_is)) is.1
  load_fails owned asked (fault.Store why) owns is = absurd is
