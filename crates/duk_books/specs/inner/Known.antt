-- What the laws of the crates below say, as far as most laws here rest on it: this project's own.
use Rattle.std.specs.Prelude.{◌≡◌, ◌++◌, ℕ, List}
use Rattle.duk_frame.specs.Answer.{IsAnswer, IsReply}
use Rattle.duk_frame.specs.Payment.{payment_reply, reply_mac, request_of}
use Rattle.duk_frame.specs.Request.{IsRequest}
use Rattle.duk_frame.specs.declared.answer.AnswerFrame.{AnswerFrame}
use Rattle.duk_frame.specs.declared.code.Code.{Code}
use Rattle.duk_frame.specs.declared.request.Request.{Request}
use Rattle.duk_journal.specs.Groups.{Entries}
use Rattle.duk_journal.specs.Standing.{UseNewNumbers}
use Rattle.duk_journal_host.specs.Judged.{AreJudged, AreRepliesOf, AreReversalRepliesOf}
use Rattle.duk_journal_host.specs.Judgement.{LineBasis}
use Rattle.duk_reversal.specs.Authentic.{reversal_of}
use Rattle.duk_reversal.specs.Reply.{IsReversalReply}
use Rattle.duk_reversal.specs.Reversal.{IsReversal}
use Rattle.duk_reversal.specs.declared.reply.ReversalReply as reply_frame
use Rattle.duk_reversal.specs.declared.reversal.Reversal as reversal_frame
use Rattle.duk_stations.specs.Registers.{RegisterLaws}
use Rattle.duk_term.specs.Begin.{IsBegun}
use Rattle.duk_term.specs.Reversal.{IsReversalBegun, numbers_of}
use Rattle.duk_term.specs.Terminal.{TerminalOf, serial_of}
use Rattle.duk_term.specs.declared.purchase.Purchase.{Purchase}
use Rattle.duk_till.specs.Image.{IsLastBody}
use Rattle.duk_till.specs.declared.last.Last.{Last}
use Rattle.duk_tree.specs.Serial.{IsSerial, Serial}
use Rattle.duk_books.specs.Books.{Meanings}

-- bytes are the body of at most one last purchase
abbrev pub OneReading : Type 0
OneReading = (body : List ℕ) (one other : Last) → IsLastBody body one → IsLastBody body other
    → one ≡ other

-- what is known of registers and bodies
pub record CallLaws : Type 0 where
  pub registers : RegisterLaws
  pub reading : OneReading

-- how frames are read
pub record FrameLaws : Type 0 where
  pub one_request : (bytes : List ℕ) (one other : Request) → IsRequest bytes one
      → IsRequest bytes other → one ≡ other
  pub one_answer : (bytes : List ℕ) (one other : AnswerFrame) → IsAnswer bytes one
      → IsAnswer bytes other → one ≡ other
  pub one_reversal : (bytes : List ℕ) (one other : reversal_frame.Reversal)
      → IsReversal bytes one → IsReversal bytes other → one ≡ other
  pub one_reply : (bytes : List ℕ) (one other : reply_frame.ReversalReply)
      → IsReversalReply bytes one → IsReversalReply bytes other → one ≡ other
  pub apart : (bytes : List ℕ) (request : Request) (reversal : reversal_frame.Reversal)
      → IsRequest bytes request → ¬ IsReversal bytes reversal
  pub apart_answers : (bytes : List ℕ) (answer : AnswerFrame) (reply : reply_frame.ReversalReply)
      → IsAnswer bytes answer → ¬ IsReversalReply bytes reply

-- what is known of a host's answers
pub record HostLaws : Type 0 where
  pub new_numbers : (basis : LineBasis) (frames answers : List (List ℕ)) (added : Entries)
      → AreJudged basis frames answers added → UseNewNumbers basis.entries
      → UseNewNumbers (basis.entries ++ added)
  pub replies : (basis : LineBasis) (frames answers : List (List ℕ)) (added : Entries)
      → AreJudged basis frames answers added
      → AreRepliesOf basis.keys (basis.entries ++ added) answers
      × AreReversalRepliesOf basis.keys (basis.entries ++ added) answers
  pub one_answer : (bytes : List ℕ) (one other : AnswerFrame) → IsAnswer bytes one
      → IsAnswer bytes other → one ≡ other
  pub replied : (key : List ℕ) (ksn : Serial) (code : Code) → IsSerial ksn
      → IsReply (payment_reply key ksn code) ksn code (reply_mac key ksn code)

-- what is known of all, and that what tills send are requests and reversals
pub record BookLaws {C B J I : Type 0} (m : Meanings C B J I) : Type 0 where
  pub calls : CallLaws
  pub frames : FrameLaws
  pub host : HostLaws
  pub request : (purchase : Purchase) (old new : TerminalOf C) (frame : List ℕ)
      → (begun : IsBegun m.cell purchase old new frame) → IsRequest frame
      (request_of begun.key (serial_of begun.set) purchase.pan purchase.pin purchase.amount)
  pub reversal : (reversed ksn : Serial) (frame : List ℕ) (old new : TerminalOf C)
      → (begun : IsReversalBegun m.cell reversed ksn frame old new)
      → IsReversal frame (reversal_of begun.key (numbers_of begun.set reversed))
