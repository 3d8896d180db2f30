-- A frame that a host refused, or that was settled and has this answer, as a turn of one host; and
-- what turns leave.
use Rattle.std.proofs.Common.{◌≡◌, ◌⊎◌, ◌-◌, ℕ, List, [], ◌∷◌, ◌++◌, Contains, length, inl, inr, refl, sym, ap, subst, ◌∙◌, append_assoc}
use Rattle.std.proofs.lemmas.List.{append-nil}
use Rattle.duk_host.specs.Judgement.{Decision}
use Rattle.duk_hsm.specs.Keys.{HsmKeys}
use Rattle.duk_journal.specs.Groups.{Entries}
use Rattle.duk_journal.specs.Standing.{payment_entry}
use Rattle.duk_journal.specs.declared.entry.Entry.{Entry}
use Rattle.duk_journal_host.specs.Candidate.{IsCandidate, IsItsOwnCode, IsOfCandidate}
use Rattle.duk_journal_host.specs.Judged.{AreJudged}
use Rattle.duk_journal_host.specs.Judgement.{IsJudged, LineBasis, line_basis, reversal_entry}
use Rattle.duk_journal_host.specs.Steps.{IsAnswerOf, IsAsked, IsCodeFor, IsDismissed, IsSettledBy, added_by}
use Rattle.duk_journal_host.specs.declared.settlement.Settled.{Settled}
use Rattle.duk_journal_host.specs.declared.settlement.Settled.TheVariants as settled
use Rattle.duk_journal_host.specs.declared.settlement.Settlement.TheVariants.{Full, Kept, KnownAgain, Used}
use Rattle.duk_journal_host.specs.declared.candidate.Candidate.{Candidate}
use Rattle.duk_hosts.specs.Book.{Bound, IsSettledIn, capacity_of, room_of}
use Rattle.duk_hosts.specs.Events.{Ask, Hosts, IsCandidateOf, Turn, turn}
use Rattle.duk_hosts.specs.OneHost.{InTurn, IsTurnOf}
use Rattle.duk_hosts.proofs.Members.{none_in, the_one, the_only}
use Rattle.duk_hosts.proofs.Settling.{HasRoom, KnownTooIf, answers_kept, asked_of, settled_by}

-- what is known of frames that go through the three steps
pub record StepLaws : Type 0 where
  pub dismissed : (keys : HsmKeys) (entries : Entries) (capacity room : ℕ) (decides : Decision) (bytes frame : List ℕ) → IsDismissed keys bytes frame → IsJudged (line_basis keys entries capacity room decides) bytes frame []
  pub settled : (keys : HsmKeys) (entries : Entries) (capacity room : ℕ) (decides : Decision) (bytes frame : List ℕ) (done : Settled) → IsAsked keys bytes done
      → IsSettledBy entries capacity room (IsCodeFor keys decides bytes) done → IsAnswerOf keys done frame → IsJudged (line_basis keys entries capacity room decides) bytes frame (added_by done)
  pub candidate : (keys : HsmKeys) (entries : Entries) (capacity room : ℕ) (decides : Decision) (bytes : List ℕ) (candidate : Candidate) (done : Settled) → IsCandidate keys decides bytes candidate → IsOfCandidate candidate done
      → IsSettledBy entries capacity room (IsItsOwnCode candidate) done → IsAsked keys bytes done × IsSettledBy entries capacity room (IsCodeFor keys decides bytes) done

-- a turn that a list of entries judges: those that are kept; or some of them, and nothing is added
pub record IsFounded (hosts : Hosts) (entries : Entries) (one : Turn) (added : Entries) : Type 0 where
  pub basis : LineBasis
  pub keys_are : basis.keys ≡ hosts.keys
  pub judged : IsJudged basis one.ask.frame one.answer added
  pub founded : (basis.entries ≡ entries) ⊎ ((added ≡ []) × ((entry : Entry) → Contains basis.entries entry → Contains entries entry))

not_kept : {T : Type 0} (outcome known : T) → Kept outcome ≡ KnownAgain known → ⊥
not_kept outcome known same = cc

not_used : {T : Type 0} (known : T) → Used ≡ KnownAgain known → ⊥
not_used known same = cc

not_full : {T : Type 0} (known : T) → Full ≡ KnownAgain known → ⊥
not_full known same = cc

pub same_room : (bound : Bound) (entries : Entries) → HasRoom bound entries (capacity_of bound) (room_of bound entries)
same_room bound entries = record { full = λ is. is; left = λ is. is; full_payments = λ is. is; left_payments = λ is. is }

module _ (laws : StepLaws) (hosts : Hosts) where
  pub refused_turn : (capacity : ℕ) (entries : Entries) (ask : Ask) (answer : List ℕ) → IsDismissed hosts.keys ask.frame answer → IsTurnOf hosts capacity entries (turn ask answer) []
  refused_turn capacity entries ask answer is = laws.dismissed hosts.keys entries capacity (capacity - length entries) (hosts.decides ask.host) ask.frame answer is

  pub settled_turn : (bound : Bound) (capacity : ℕ) (entries : Entries) (ask : Ask) (candidate : Candidate) (done : Settled) (answer : List ℕ) → HasRoom bound entries capacity (capacity - length entries) → KnownTooIf bound entries done
      → IsCandidateOf hosts ask candidate → IsSettledIn bound entries candidate done → IsAnswerOf hosts.keys done answer → IsTurnOf hosts capacity entries (turn ask answer) (added_by done)
  settled_turn bound capacity entries ask candidate done answer has known is settles answers =
      let own = settled_by bound entries capacity (capacity - length entries) (IsItsOwnCode candidate) done has known settles.1 in
      let both = laws.candidate hosts.keys entries capacity (capacity - length entries) (hosts.decides ask.host) ask.frame candidate done is settles.0 own in
      laws.settled hosts.keys entries capacity (capacity - length entries) (hosts.decides ask.host) ask.frame answer done both.0 both.1 answers

  -- ---- by what is kept, or by the entry that is known again

  pub refused_founded : (entries : Entries) (ask : Ask) (answer : List ℕ) → IsDismissed hosts.keys ask.frame answer → IsFounded hosts entries (turn ask answer) []
  refused_founded entries ask answer is = record {
    basis = line_basis hosts.keys entries 0 0 (hosts.decides ask.host);
    keys_are = refl;
    judged = laws.dismissed hosts.keys entries 0 0 (hosts.decides ask.host) ask.frame answer is;
    founded = inl refl;
  }

  by_all : (bound : Bound) (entries : Entries) (ask : Ask) (candidate : Candidate) (done : Settled) (answer : List ℕ) → KnownTooIf bound entries done
      → IsCandidateOf hosts ask candidate → IsSettledIn bound entries candidate done → IsAnswerOf hosts.keys done answer → IsFounded hosts entries (turn ask answer) (added_by done)
  by_all bound entries ask candidate done answer known is settles answers =
      let own = settled_by bound entries (capacity_of bound) (room_of bound entries) (IsItsOwnCode candidate) done (same_room bound entries) known settles.1 in
      let both = laws.candidate hosts.keys entries (capacity_of bound) (room_of bound entries) (hosts.decides ask.host) ask.frame candidate done is settles.0 own in
      record {
        basis = line_basis hosts.keys entries (capacity_of bound) (room_of bound entries) (hosts.decides ask.host);
        keys_are = refl;
        judged = laws.settled hosts.keys entries (capacity_of bound) (room_of bound entries) (hosts.decides ask.host) ask.frame answer done both.0 both.1 answers;
        founded = inl refl;
      }

  by_one : (entries : Entries) (ask : Ask) (done : Settled) (answer : List ℕ) (entry : Entry) → added_by done ≡ [] → Contains entries entry → IsAsked hosts.keys ask.frame done
      → IsSettledBy (entry ∷ []) 0 0 (IsCodeFor hosts.keys (hosts.decides ask.host) ask.frame) done → IsAnswerOf hosts.keys done answer → IsFounded hosts entries (turn ask answer) (added_by done)
  by_one entries ask done answer entry none kept asked settles answers = record {
    basis = line_basis hosts.keys (entry ∷ []) 0 0 (hosts.decides ask.host);
    keys_are = refl;
    judged = laws.settled hosts.keys (entry ∷ []) 0 0 (hosts.decides ask.host) ask.frame answer done asked settles answers;
    founded = inr (none, λ other is_in. subst (λ entry. Contains entries entry) (sym (the_only entry other is_in)) kept);
  }

  pub settled_founded : (bound : Bound) (entries : Entries) (ask : Ask) (candidate : Candidate) (done : Settled) (answer : List ℕ)
      → IsCandidateOf hosts ask candidate → IsSettledIn bound entries candidate done → IsAnswerOf hosts.keys done answer → IsFounded hosts entries (turn ask answer) (added_by done)
  settled_founded bound entries ask candidate (settled.Payment same (KnownAgain given)) answer is settles answers =
      let knows = settles.1 in
      let entry = payment_entry same.number knows.amount given same.mac in
      by_one entries ask (settled.Payment same (KnownAgain given)) answer entry refl (answers_kept bound entries entry knows.kept)
      (asked_of hosts bound entries ask candidate (settled.Payment same (KnownAgain given)) is settles)
      (record { amount = knows.amount; kept = the_one entry; not_undone = none_in same.number }) answers
  settled_founded bound entries ask candidate (settled.Payment same (Kept given)) answer is settles answers =
      by_all bound entries ask candidate (settled.Payment same (Kept given)) answer (λ known is_it. absurd (not_kept given known is_it)) is settles answers
  settled_founded bound entries ask candidate (settled.Payment same Used) answer is settles answers =
      by_all bound entries ask candidate (settled.Payment same Used) answer (λ known is_it. absurd (not_used known is_it)) is settles answers
  settled_founded bound entries ask candidate (settled.Payment same Full) answer is settles answers =
      by_all bound entries ask candidate (settled.Payment same Full) answer (λ known is_it. absurd (not_full known is_it)) is settles answers
  settled_founded bound entries ask candidate (settled.Reversal same (KnownAgain state)) answer is settles answers =
      let entry = reversal_entry same state in
      by_one entries ask (settled.Reversal same (KnownAgain state)) answer entry refl (answers_kept bound entries entry settles.1)
      (asked_of hosts bound entries ask candidate (settled.Reversal same (KnownAgain state)) is settles)
      (the_one entry) answers
  settled_founded bound entries ask candidate (settled.Reversal same (Kept state)) answer is settles answers =
      by_all bound entries ask candidate (settled.Reversal same (Kept state)) answer (λ known is_it. absurd (not_kept state known is_it)) is settles answers
  settled_founded bound entries ask candidate (settled.Reversal same Used) answer is settles answers =
      by_all bound entries ask candidate (settled.Reversal same Used) answer (λ known is_it. absurd (not_used known is_it)) is settles answers
  settled_founded bound entries ask candidate (settled.Reversal same Full) answer is settles answers =
      by_all bound entries ask candidate (settled.Reversal same Full) answer (λ known is_it. absurd (not_full known is_it)) is settles answers

-- ---- turns in turn

pub joined : (follows : Entries → Turn → Entries → Type 0) (entries : Entries) (turns more : List Turn) (added further : Entries) → InTurn follows entries turns added → InTurn follows (entries ++ added) more further
    → InTurn follows entries (turns ++ more) (added ++ further)
joined follows entries [] more added further first then =
    let same : entries ++ added ≡ entries = ap (λ added. entries ++ added) first ∙ append-nil entries in
    let none : further ≡ added ++ further = ap (λ added. added ++ further) (sym first) in
    subst (λ added. InTurn follows entries more added) none (subst (λ entries. InTurn follows entries more further) same then)
joined follows entries (one ∷ turns) more added further first then =
    let same : entries ++ added ≡ (entries ++ first.0) ++ first.1 = ap (λ added. entries ++ added) first.4 ∙ sym (append_assoc entries first.0 first.1) in
    let rest = joined follows (entries ++ first.0) turns more first.1 further first.3 (subst (λ entries. InTurn follows entries more further) same then) in
    (first.0, first.1 ++ further, first.2, rest, ap (λ added. added ++ further) first.4 ∙ append_assoc first.0 first.1 further)

-- what each turn leaves so, turns leave so
pub through : (follows : Entries → Turn → Entries → Type 0) (Holds : Entries → Type 0) → ((entries : Entries) (one : Turn) (added : Entries) → follows entries one added → Holds entries → Holds (entries ++ added))
    → (entries : Entries) (turns : List Turn) (added : Entries) → InTurn follows entries turns added → Holds entries → Holds (entries ++ added)
through follows Holds each entries [] added judged holds = subst Holds (sym (append-nil entries) ∙ ap (λ added. entries ++ added) (sym judged)) holds
through follows Holds each entries (one ∷ turns) added judged holds =
    let first = each entries one judged.0 judged.2 holds in
    let all = through follows Holds each (entries ++ judged.0) turns judged.1 judged.3 first in
    subst Holds (append_assoc entries judged.0 judged.1 ∙ ap (λ added. entries ++ added) (sym judged.4)) all

-- a turn alone
pub alone : (basis : LineBasis) (frame answer : List ℕ) (added : Entries) → IsJudged basis frame answer added → AreJudged basis (frame ∷ []) (answer ∷ []) added
alone basis frame answer added judged = (added, [], judged, refl, sym (append-nil added))
