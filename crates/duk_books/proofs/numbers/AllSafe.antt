-- What holds of all that is reached: each till is safe, and no two frames that were sent up use one
-- number.
use Rattle.std.proofs.Common.{◌≡◌, ◌⊎◌, ◌++◌, ◌∷◌, [], ℕ, List, get_or, inl, inr, sym, ap, subst, ◌∙◌}
use Rattle.std.proofs.lemmas.List.Elements.{All-push, Contains-get_or, Contains-push_cases}
use Rattle.std.proofs.lemmas.List.Quantifiers.{all_pairs_push}
use Rattle.duk_frame.specs.declared.request.Request.{Request}
use Rattle.duk_reversal.specs.Authentic.{reversal_of}
use Rattle.duk_reversal.specs.Reversal.{IsReversal}
use Rattle.duk_reversal.specs.declared.reversal.Reversal as reversal_frame
use Rattle.duk_store.specs.Cell.{CellMeaning}
use Rattle.duk_term.specs.Reversal.{IsReversalBegun, numbers_of}
use Rattle.duk_term.specs.Terminal.{TerminalOf}
use Rattle.duk_till.specs.Till.{TillOf}
use Rattle.duk_tree.specs.Serial.{Serial}
use Rattle.duk_stations.specs.Places.{IsAt}
use Rattle.duk_stations.specs.Registers.{RegisterLaws}
use Rattle.duk_stations.proofs.IssuedKeys.{IssuedIsOwnKey}
use Rattle.duk_stations.proofs.OwnKey.{BegunIsRequest}
use Rattle.duk_stations.proofs.Safe.{AllSafe, Rest}
use Rattle.duk_books.specs.Books.{BooksOf, Frame, Meanings}
use Rattle.duk_books.specs.Numbers.{HasNumber, HasUsableNumber, HaveDifferentNumbers, IsUsedNumber, UsedOnce}
use Rattle.duk_books.specs.inner.Known.{FrameLaws}
use Rattle.duk_books.proofs.numbers.BookBodies.{HasLasts}

-- the frame of a reversal that is begun is one
abbrev pub BegunIsReversal : {C : Type 0} → CellMeaning C → Type 0
BegunIsReversal cell = (reversed ksn : Serial) (frame : List ℕ) (old new : TerminalOf _) → (begun : IsReversalBegun cell reversed ksn frame old new)
    → IsReversal frame (reversal_of begun.key (numbers_of begun.set reversed))

-- what the laws of the crates below say
pub record SafeLaws {C : Type 0} (cell : CellMeaning C) : Type 0 where
  pub registers : RegisterLaws
  pub reading : FrameLaws
  pub request : BegunIsRequest cell
  pub reversal : BegunIsReversal cell
  pub own_key : IssuedIsOwnKey

-- what the rest is to a till
abbrev pub rest_of : {C B J I : Type 0} → BooksOf C B J I → Rest
rest_of books = record { keys = books.host.keys; used = IsUsedNumber books.requests; owners = books.owners }

-- a till is a station: its terminal
abbrev pub terminal_in : {C B : Type 0} → TillOf C B → TerminalOf C
terminal_in till = till.terminal

pub record IsSafe {C B J I : Type 0} (m : Meanings C B J I) (books : BooksOf C B J I) : Type 0 where
  pub stations : AllSafe terminal_in m.cell (rest_of books) books.tills
  pub lasts : (t : ℕ) (till : TillOf C B) → IsAt books.tills t till → HasLasts m.book till
  pub used_once : UsedOnce books.requests

-- ---- a frame that is sent

-- a frame has one number at most
one_number : FrameLaws → (frame : Frame) (one other : Serial) → HasNumber frame one → HasNumber frame other → one ≡ other
one_number laws frame one other (inl a) (inl b) = a.ksn_is ∙ ap (λ (it : Request). it.ksn) (laws.one_request frame.items a.request b.request a.is_request b.is_request) ∙ sym b.ksn_is
one_number laws frame one other (inl a) (inr b) = absurd (laws.apart frame.items a.request b.reversal a.is_request b.is_reversal)
one_number laws frame one other (inr a) (inl b) = absurd (laws.apart frame.items b.request a.reversal b.is_request a.is_reversal)
one_number laws frame one other (inr a) (inr b) =
    a.ksn_is ∙ ap (λ (it : reversal_frame.Reversal). it.numbers.ksn) (laws.one_reversal frame.items a.reversal b.reversal a.is_reversal b.is_reversal) ∙ sym b.ksn_is

module _ (reading : FrameLaws) (requests : List Frame) (frame : Frame) (number : Serial) (has : HasNumber frame number) where
  -- a number that is used then was used before, or is that one
  pub used_cases : (ksn : Serial) → IsUsedNumber (requests ++ frame ∷ []) ksn → IsUsedNumber requests ksn ⊎ (ksn ≡ number)
  used_cases ksn used = elim (Contains-push_cases requests frame used.frame used.sent) [
    | inl sent ↦ inl (record { frame = used.frame; sent = sent; number = used.number })
    | inr is ↦ inr (one_number reading frame ksn number (subst (λ (it : Frame). HasNumber it ksn) (sym is) used.number) has)
  ]

  pub once_more : HasUsableNumber frame → ¬ IsUsedNumber requests number → UsedOnce requests → UsedOnce (requests ++ frame ∷ [])
  once_more usable fresh once = record {
    usable = All-push HasUsableNumber requests frame once.usable usable;
    different = all_pairs_push HaveDifferentNumbers requests frame once.different (λ k d within ksn one other.
        fresh (subst (λ (it : Serial). IsUsedNumber requests it) (one_number reading frame ksn number other has) (record { frame = get_or requests k d; sent = Contains-get_or requests k d within; number = one })));
  }
