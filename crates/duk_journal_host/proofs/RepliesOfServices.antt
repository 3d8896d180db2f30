-- The replies of services over one journal, all together: of each kind those of one number are equal,
-- and the journal keeps the entry of each.
use Rattle.std.proofs.Common.{◌≡◌, inl, inr, ℕ, List, [], ◌++◌, sym, ◌∙◌, subst}
use Rattle.std.proofs.lemmas.List.Elements.{Contains-append_cases, Contains-append_left}
use Rattle.duk_host.specs.Lifetime.{AcceptsAlike}
use Rattle.duk_hsm.specs.Keys.{HsmKeys}
use Rattle.duk_journal.specs.Groups.{Entries}
use Rattle.duk_journal.specs.Standing.{UseNewNumbers}
use Rattle.duk_reversal.specs.Numbers.{Numbers}
use Rattle.duk_reversal.specs.declared.state.ReversalState.{ReversalState}
use Rattle.duk_tree.specs.Serial.{Serial}
use Rattle.duk_journal_host.specs.Judged.{AreJudged, AreRepliesOf, AreReversalRepliesOf, IsReplyOf, IsReversalReplyOf, TellWhatIsKept, TellsAlike}
use Rattle.duk_journal_host.specs.Judgement.{LineBasis}
use Rattle.duk_journal_host.proofs.LifetimeOfServices.{IsKeptUp}
use Rattle.duk_journal_host.proofs.Members.{none_in}

-- what is known of replies
pub record ReplyLaws : Type 0 where
  pub kept : (basis : LineBasis) (frames answers : List (List ℕ)) (added : Entries) → AreJudged basis frames answers added
      → AreRepliesOf basis.keys (basis.entries ++ added) answers × AreReversalRepliesOf basis.keys (basis.entries ++ added) answers
  pub longer : (keys : HsmKeys) (entries added : Entries) (ksn : Serial) (frame : List ℕ) → IsReplyOf keys entries ksn frame → IsReplyOf keys (entries ++ added) ksn frame
  pub reversal_longer : (keys : HsmKeys) (entries added : Entries) (numbers : Numbers) (state : ReversalState) (frame : List ℕ)
      → IsReversalReplyOf keys entries numbers state frame → IsReversalReplyOf keys (entries ++ added) numbers state frame
  pub equal : (keys : HsmKeys) (entries : Entries) (ksn : Serial) (one other : List ℕ) → UseNewNumbers entries → IsReplyOf keys entries ksn one → IsReplyOf keys entries ksn other → one ≡ other
  pub reversal_equal : (keys : HsmKeys) (entries : Entries) (numbers others : Numbers) (state told : ReversalState) (one other : List ℕ) → UseNewNumbers entries → numbers.ksn ≡ others.ksn
      → IsReversalReplyOf keys entries numbers state one → IsReversalReplyOf keys entries others told other → one ≡ other

-- the entries have the entry of each reply among the answers, and those of one number are equal
pub record HasAll (keys : HsmKeys) (answers : List (List ℕ)) (entries : Entries) : Type 0 where
  pub payments : AreRepliesOf keys entries answers
  pub reversals : AreReversalRepliesOf keys entries answers

pub record AllAlike (answers : List (List ℕ)) : Type 0 where
  pub payments : AcceptsAlike answers
  pub reversals : TellsAlike answers

pub has_none : (keys : HsmKeys) (entries : Entries) → HasAll keys [] entries
has_none keys entries = record {
  payments = λ answer ksn is_in. absurd (none_in answer is_in);
  reversals = λ answer numbers state is_in. absurd (none_in answer is_in);
}

module _ (laws : ReplyLaws) (keys : HsmKeys) where
  more_answers : (basis : LineBasis) (before frames answers : List (List ℕ)) (added : Entries) → basis.keys ≡ keys → AreJudged basis frames answers added → HasAll keys before basis.entries
      → HasAll keys (before ++ answers) (basis.entries ++ added)
  more_answers basis before frames answers added keys_are judged has =
      let entries = basis.entries in
      let here = laws.kept basis frames answers added judged in
      let payments : AreRepliesOf keys (entries ++ added) answers = subst (λ keys. AreRepliesOf keys (entries ++ added) answers) keys_are here.0 in
      let reversals : AreReversalRepliesOf keys (entries ++ added) answers = subst (λ keys. AreReversalRepliesOf keys (entries ++ added) answers) keys_are here.1 in
      record {
        payments = λ answer ksn is_in accepts. elim (Contains-append_cases before answers answer is_in) [
          | inl earlier ↦ laws.longer keys entries added ksn answer (has.payments answer ksn earlier accepts)
          | inr now ↦ payments answer ksn now accepts
        ];
        reversals = λ answer numbers state is_in tells. elim (Contains-append_cases before answers answer is_in) [
          | inl earlier ↦ laws.reversal_longer keys entries added numbers state answer (has.reversals answer numbers state earlier tells)
          | inr now ↦ reversals answer numbers state now tells
        ];
      }

  fewer_answers : (before answers : List (List ℕ)) (entries : Entries) → HasAll keys (before ++ answers) entries → HasAll keys before entries
  fewer_answers before answers entries has = record {
    payments = λ answer ksn is_in accepts. has.payments answer ksn (Contains-append_left before answers answer is_in) accepts;
    reversals = λ answer numbers state is_in tells. has.reversals answer numbers state (Contains-append_left before answers answer is_in) tells;
  }

  alike_by : (answers : List (List ℕ)) (entries : Entries) → UseNewNumbers entries → HasAll keys answers entries → AllAlike answers
  alike_by answers entries new has = record {
    payments = λ ksn one other in_one in_other a b. laws.equal keys entries ksn one other new (has.payments one ksn in_one a) (has.payments other ksn in_other b);
    reversals = λ ksn one other in_one in_other a b.
        laws.reversal_equal keys entries a.0 b.0 a.1 b.1 one other new (a.2 ∙ sym b.2) (has.reversals one a.0 a.1 in_one a.3) (has.reversals other b.0 b.1 in_other b.3);
  }

  pub replies_kept_up : IsKeptUp keys (HasAll keys) AllAlike
  replies_kept_up = record {
    judged = more_answers;
    fewer = fewer_answers;
    alike = alike_by;
    none = record { payments = λ ksn one other is_in. absurd (none_in one is_in); reversals = λ ksn one other is_in. absurd (none_in one is_in) };
  }

-- reversals tell what is kept, whatever was answered
pub tells_kept_up : (keys : HsmKeys) → ((basis : LineBasis) (frames answers : List (List ℕ)) (added : Entries) → AreJudged basis frames answers added → TellWhatIsKept basis.entries → TellWhatIsKept (basis.entries ++ added))
    → IsKeptUp keys (λ answers entries. TellWhatIsKept entries) (λ answers. Unit {0})
tells_kept_up keys law = record {
  judged = λ basis before frames answers added keys_are judged tell. law basis frames answers added judged tell;
  fewer = λ before answers entries tell. tell;
  alike = λ answers entries new tell. tt;
  none = tt;
}
