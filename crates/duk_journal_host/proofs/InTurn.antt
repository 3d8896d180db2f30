-- Frames that are judged in turn, however they are grouped.
use Rattle.std.proofs.Common.{◌≡◌, ◌-◌, ℕ, suc, List, [], ◌∷◌, ◌++◌, length, refl, sym, ap, subst, ◌∙◌, append_assoc, arith, length-append}
use Rattle.std.proofs.lemmas.List.{append-nil}
use Rattle.duk_journal.specs.Groups.{Entries}
use Rattle.duk_journal_host.specs.Judged.{AreJudged, AreTwoGroups}
use Rattle.duk_journal_host.specs.Judgement.{LineBasis, line_basis, with_entries}

sub_none : (room : ℕ) → room - 0 ≡ room
sub_none room = omega arith

-- nothing added changes nothing
pub with_none : (basis : LineBasis) → with_entries basis [] ≡ basis
with_none basis =
    ap (λ entries. line_basis basis.keys entries basis.capacity (basis.room - 0) basis.decides) (append-nil basis.entries)
    ∙ ap (λ room. line_basis basis.keys basis.entries basis.capacity room basis.decides) (sub_none basis.room)

room_left : (room : ℕ) (added further : Entries) → room - length added - length further ≡ room - length (added ++ further)
room_left room added further = omega (arith, length-append added further)

-- what is added one after the other is added together
pub with_both : (basis : LineBasis) (added further : Entries) → with_entries (with_entries basis added) further ≡ with_entries basis (added ++ further)
with_both basis added further =
    ap (λ entries. line_basis basis.keys entries basis.capacity (basis.room - length added - length further) basis.decides) (append_assoc basis.entries added further)
    ∙ ap (λ room. line_basis basis.keys (basis.entries ++ (added ++ further)) basis.capacity room basis.decides) (room_left basis.room added further)

-- there are as many answers as frames
pub as_many : (basis : LineBasis) (frames answers : List (List ℕ)) (added : Entries) → AreJudged basis frames answers added → length answers ≡ length frames
as_many basis [] [] added judged = refl
as_many basis [] (answer ∷ answers) added judged = absurd judged
as_many basis (frame ∷ frames) [] added judged = absurd judged
as_many basis (frame ∷ frames) (answer ∷ answers) added judged =
    ap suc (as_many (with_entries basis judged.0) frames answers judged.1 judged.3)

-- a group after another is one group
pub joined :
    (basis : LineBasis) (frames more answers others : List (List ℕ)) (added further : Entries)
    → AreJudged basis frames answers added → AreJudged (with_entries basis added) more others further
    → AreJudged basis (frames ++ more) (answers ++ others) (added ++ further)
joined basis [] more [] others added further first then =
    let same : with_entries basis added ≡ basis = ap (λ added. with_entries basis added) first ∙ with_none basis in
    let none : further ≡ added ++ further = ap (λ added. added ++ further) (sym first) in
    subst (λ added. AreJudged basis more others added) none (subst (λ basis. AreJudged basis more others further) same then)
joined basis [] more (answer ∷ answers) others added further first then = absurd first
joined basis (frame ∷ frames) more [] others added further first then = absurd first
joined basis (frame ∷ frames) more (answer ∷ answers) others added further first then =
    let same : with_entries basis added ≡ with_entries (with_entries basis first.0) first.1 =
    ap (λ added. with_entries basis added) first.4 ∙ sym (with_both basis first.0 first.1) in
    let rest = joined (with_entries basis first.0) frames more answers others first.1 further first.3 (subst (λ basis. AreJudged basis more others further) same then) in
    (first.0, first.1 ++ further, first.2, rest, ap (λ added. added ++ further) first.4 ∙ append_assoc first.0 first.1 further)

-- one group is a group after another
pub parted :
    (basis : LineBasis) (frames more answers : List (List ℕ)) (added : Entries)
    → AreJudged basis (frames ++ more) answers added → AreTwoGroups basis frames more answers added
parted basis [] more answers added judged = record {
  first = [];
  others = answers;
  before = [];
  after = added;
  answers_are = refl;
  added_are = refl;
  judged = refl;
  judged_then = subst (λ basis. AreJudged basis more answers added) (sym (with_none basis)) judged;
}
parted basis (frame ∷ frames) more [] added judged = absurd judged
parted basis (frame ∷ frames) more (answer ∷ answers) added judged =
    let rest = parted (with_entries basis judged.0) frames more answers judged.1 judged.3 in
    record {
      first = answer ∷ rest.first;
      others = rest.others;
      before = judged.0 ++ rest.before;
      after = rest.after;
      answers_are = ap (λ answers. answer ∷ answers) rest.answers_are;
      added_are = judged.4 ∙ ap (λ added. judged.0 ++ added) rest.added_are ∙ sym (append_assoc judged.0 rest.before rest.after);
      judged = (judged.0, rest.before, judged.2, rest.judged, refl);
      judged_then = subst (λ basis. AreJudged basis more rest.others rest.after) (with_both basis judged.0 rest.before) rest.judged_then;
    }
