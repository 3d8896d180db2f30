-- Lines that are made once more, one after the other.
use Rattle.std.proofs.Common.{◌≡◌, ◌<◌, ◌+◌, ℕ, zero, suc, Bool, List, [], ◌∷◌, ◌++◌, length, refl, sym, ap, ◌∙◌, subst, arith}
use Rattle.duk_io.specs.Known.{Known}
use Rattle.duk_io.specs.Sink.{IsWritten}
use Rattle.duk_ledger.specs.declared.issued.Issued.{Issued}
use Rattle.duk_store.specs.Listed.{ListMeaning}
use Rattle.duk_commands.specs.Again.{AreAllIssued, AreMadeAgain, IsMissing, NotMadeAgain, places_from}
use Rattle.duk_commands.specs.Issue.{IsRefusedBy, ends}
use Rattle.duk_commands.specs.IssuedLines.{AreLines, IsLine}
use Rattle.duk_commands.specs.Numbers.{iksn_at}
use Rattle.duk_commands.specs.declared.issue.fault.IssueFault.{IssueFault}
use Rattle.duk_commands.specs.declared.issue.fault.IssueFault.TheVariants as fault
use Rattle.duk_commands.specs.declared.issue.order.Order.{Order}
use Rattle.duk_commands.specs.inner.Again.{AreCut, AreWritten}
use Rattle.duk_commands.specs.inner.Ledger.{IsLedgerRead}
use Rattle.duk_commands.specs.inner.Marks.{AreMarkedBefore, IsFirstUnmarked}
use Rattle.duk_commands.proofs.Appended.{lines_more}

-- the places, and one more
pub one_place_more : (place count : ℕ) → places_from place (suc count) ≡ places_from place count ++ (place + count) ∷ []
one_place_more place zero = let same : place ≡ place + 0 = omega arith in ap (λ p. p ∷ []) same
one_place_more place (suc count) =
    let same : suc place + count ≡ place + suc count = omega arith in
    ap (λ places. place ∷ places) (one_place_more (suc place) count ∙ ap (λ p. places_from (suc place) count ++ p ∷ []) same)

module _ (order : Order) (padding : List ℕ) (old : Known) where
  pub none_written : IsWritten old old [] → AreWritten order padding old old 0
  none_written unwritten = record { text = []; lines = refl; written = unwritten }

  -- a line more is written
  pub one_written : (mid new : Known) (place : ℕ) (line : List ℕ)
      → ((text : List ℕ) → IsWritten old mid text → IsWritten mid new line → IsWritten old new (text ++ line))
      → AreWritten order padding old mid place → IsLine order padding place line → IsWritten mid new line → AreWritten order padding old new (place + 1)
  one_written mid new place line then before is written =
      let next : suc place ≡ place + 1 = omega arith in
      let same : 0 + place ≡ place = omega arith in
      let places : places_from 0 place ++ place ∷ [] ≡ places_from 0 (place + 1) = ap (λ p. places_from 0 place ++ p ∷ []) (sym same) ∙ (sym (one_place_more 0 place) ∙ ap (places_from 0) next) in
      record {
        text = before.text ++ line;
        lines = subst (λ list. AreLines order padding list (before.text ++ line)) places (lines_more order padding (places_from 0 place) place before.text line before.lines is);
        written = then before.text before.written written;
      }

module _ {L : Type 0} (meaning : ListMeaning L Issued) (order : Order) (padding : List ℕ) (old mid : L) (marks : List Bool) (largest : ℕ)
    (read : IsLedgerRead meaning old mid order.first order.count marks largest) where
  -- the first place without a mark has the first number that is not issued
  pub missing : (output : Known) (place iksn : ℕ) → IsFirstUnmarked marks place → iksn ≡ iksn_at order.first place → IsRefusedBy meaning (ends old output) (ends mid output) (IsMissing order iksn)
  missing output place iksn first is = record {
    issues = read.issues;
    kept = read.restarted;
    refuses =
        let marked = read.are_read.marked in
        let inside = first.inside in
        record {
          place = place;
          inside = subst (λ size. place < size) read.size inside;
          missing = λ issued. first.unmarked ((marked place inside).1 issued);
          all_before = λ earlier before. (marked earlier (omega (arith, before, inside))).0 (first.all_before earlier before);
          iksn_is = is;
        };
    unwritten = refl;
  }

  module _ (all : AreMarkedBefore marks (length marks)) (output new : Known) where
    all_issued : AreAllIssued read.issues order.first order.count
    all_issued place inside =
        let within = subst (λ size. place < size) (sym read.size) inside in
        (read.are_read.marked place within).0 (all place within)

    -- all lines are made
    pub made : AreWritten order padding output new order.count → AreMadeAgain meaning order padding (ends old output) (ends mid new)
    made written = record {
      issues = read.issues;
      text = written.text;
      kept = read.restarted;
      all_issued = all_issued;
      lines = written.lines;
      written = written.written;
    }

    -- not all are
    pub not_made : (why : IssueFault) → AreCut order padding output new why → NotMadeAgain meaning order padding (ends old output) (ends mid new) why
    not_made fault.WriteFailed is = record {
      issues = read.issues;
      last = is.last;
      text = is.before.text;
      line = is.line;
      mid = is.mid;
      kept = read.restarted;
      all_issued = all_issued;
      inside = is.inside;
      lines = is.before.lines;
      line_is = is.line_is;
      written = is.before.written;
      cut = is.cut;
    }
    not_made fault.BdkRefused is = absurd is
    not_made fault.LoadingRefused is = absurd is
    not_made fault.IksnRefused is = absurd is
    not_made fault.CountRefused is = absurd is
    not_made fault.KcvRefused is = absurd is
    not_made fault.KcvDiffers is = absurd is
    not_made fault.PaddingUnread is = absurd is
    not_made fault.LedgerUnopened is = absurd is
    not_made fault.LedgerOldVersion is = absurd is
    not_made fault.OutUnmade is = absurd is
    not_made fault.LedgerFailed is = absurd is
    not_made fault.LedgerDamaged is = absurd is
    not_made (fault.Issued iksn) is = absurd is
    not_made (fault.NotIssued iksn) is = absurd is
    not_made fault.LedgerFull is = absurd is
    not_made fault.OutOfMemory is = absurd is
