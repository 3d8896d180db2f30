-- Frames that are judged for a book elsewhere, and the answers to what that settles: this project's
-- own. What lies between is `IsSettledBy` of `Steps.antt`, by the entries that the book keeps.
use Rattle.std.specs.Prelude.{◌≡◌, ℕ, List, [], ◌∷◌}
use Rattle.arrayvec.specs.ArrayVec.{ArrayVec}
use Rattle.duk_frame.specs.declared.code.Code.{Code}
use Rattle.duk_host.specs.Judgement.{Decision}
use Rattle.duk_hsm.specs.Commands.{HasTransactionKey, NoTransactionKey}
use Rattle.duk_hsm.specs.Keys.{HsmKeys}
use Rattle.duk_hsm.specs.declared.fault.HsmFault.{HsmFault}
use Rattle.duk_journal_host.specs.Steps.{IsAnswerOf, IsCodeFor, IsDismissed, IsPurchase, IsReversalAsked, number_in}
use Rattle.duk_journal_host.specs.declared.candidate.Candidate.{Candidate}
use Rattle.duk_journal_host.specs.declared.candidate.Candidate.TheVariants as candidate
use Rattle.duk_journal_host.specs.declared.candidate.Judgement.{Judgement}
use Rattle.duk_journal_host.specs.declared.candidate.Judgement.TheVariants as judgement
use Rattle.duk_journal_host.specs.declared.settlement.Settled.{Settled}
use Rattle.duk_journal_host.specs.declared.settlement.Settled.TheVariants as settled

-- the things of one list are in this relation to those of another, place by place
abbrev pub ArePaired : {A B : Type 0} → (A → B → Type 0) → List A → List B → Type 0
ArePaired related [] [] = Unit {0}
ArePaired related (one ∷ ones) (other ∷ others) =
    related one other × ArePaired related ones others
ArePaired related _ _ = ⊥

-- the bytes are this candidate: an authentic request with the code of its payment, or an authentic
-- reversal
abbrev pub IsCandidate : HsmKeys → Decision → List ℕ → Candidate → Type 0
IsCandidate keys decides bytes (candidate.Payment purchase code) =
    IsPurchase keys bytes purchase × IsCodeFor keys decides bytes code
IsCandidate keys decides bytes (candidate.Reversal reversal) = IsReversalAsked keys bytes reversal

-- the bytes are judged so: they are refused whatever is kept, or are a candidate
abbrev pub IsJudgedTo : HsmKeys → Decision → List ℕ → Judgement → Type 0
IsJudgedTo keys decides bytes (judgement.Refused frame) = IsDismissed keys bytes frame.items
IsJudgedTo keys decides bytes (judgement.Candidate it) = IsCandidate keys decides bytes it

-- what was settled is this candidate
abbrev pub IsOfCandidate : Candidate → Settled → Type 0
IsOfCandidate (candidate.Payment purchase code) (settled.Payment same settlement) = same ≡ purchase
IsOfCandidate (candidate.Reversal reversal) (settled.Reversal same settlement) = same ≡ reversal
IsOfCandidate _ _ = ⊥

-- the code of a candidate
abbrev pub IsItsOwnCode : Candidate → Code → Type 0
IsItsOwnCode (candidate.Payment purchase code) other = other ≡ code
IsItsOwnCode (candidate.Reversal reversal) other = Unit {0}

-- what was settled is answered with this frame. It has no bytes where the number that was used has no
-- transaction key: no frame was judged to be that
pub record IsAnswered (keys : HsmKeys) (settled : Settled) (frame : ArrayVec ℕ) : Type 0 where
  pub answer : HasTransactionKey keys (number_in settled) → IsAnswerOf keys settled frame.items
  pub none : (why : HsmFault) → NoTransactionKey keys (number_in settled) why → frame.items ≡ []
