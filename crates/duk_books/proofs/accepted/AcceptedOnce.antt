-- The host accepts each number once.
use Rattle.std.proofs.Common.{◌∷◌, [], ℕ, List, Contains, inl, inr, sym, ap, subst}
use Rattle.std.proofs.lemmas.List.Elements.{Contains-append_left, Contains-push}
use Rattle.duk_frame.specs.Answer.{IsReply}
use Rattle.duk_frame.specs.declared.code.Code.{Code}
use Rattle.duk_tree.specs.Serial.{Serial}
use Rattle.duk_books.specs.AcceptedOnce.{AcceptDifferentNumbers, AcceptedOnce, Accepts, HaveOneReply, IsAcceptedNumber}
use Rattle.duk_books.specs.Books.{BooksOf, Frame, Meanings}
use Rattle.duk_books.specs.CallLeads.{CallLeads}
use Rattle.duk_books.specs.Reached.{Reached}
use Rattle.duk_books.specs.Run.{Run}
use Rattle.duk_books.specs.Up.{IsAnswered}
use Rattle.duk_books.specs.declared.event.Event.{Event}
use Rattle.duk_books.specs.declared.outcome.Outcome.{Outcome}
use Rattle.duk_books.specs.declared.outcome.Outcome.TheVariants as came
use Rattle.duk_books.proofs.accepted.ListsOfOutcomes.{any_cases, any_none, any_of, no_pairs, pairs_first}
use Rattle.duk_books.proofs.accepted.RepliesHold.{ReplyLaws, reached_safe}
use Rattle.duk_books.proofs.accepted.StepsSeen.{Seen, given, neither, step_seen, taken}
use Rattle.duk_books.proofs.moves.ReachedByMoves.{reached_step}

-- an accepted number is that of an answer which the host gives
given_of : {C B J I : Type 0} (m : Meanings C B J I) (old : BooksOf C B J I) (n : ℕ) (ksn : Serial) (code : Code) (new : BooksOf C B J I) → Seen m old (came.Accepted n ksn code) new → (k : ℕ) × IsAnswered m old k (came.Accepted n ksn code) new
given_of m old n ksn code new (given k is) = (k, is)
given_of m old n ksn code new (taken k t is) = elim is.till.changed [
  | inl request ↦ absurd request.takes
  | inr reversal ↦ absurd reversal.1
]
given_of m old n ksn code new (neither same is) = absurd is

-- the answers that were given stay
pub answers_grow : {C B J I : Type 0} (m : Meanings C B J I) (old : BooksOf C B J I) (outcome : Outcome) (new : BooksOf C B J I) (frame : Frame) → Seen m old outcome new → Contains old.answers frame → Contains new.answers frame
answers_grow m old outcome new frame (given k is) has =
    subst (λ list. Contains list frame) (sym (ap (λ books. books.answers) is.rest)) (Contains-append_left old.answers (is.answer ∷ []) frame has)
answers_grow m old outcome new frame (taken k t is) has = subst (λ list. Contains list frame) (sym (ap (λ books. books.answers) is.rest)) has
answers_grow m old outcome new frame (neither same is) has = subst (λ list. Contains list frame) (sym same) has

stays_accepted : {C B J I : Type 0} (m : Meanings C B J I) (old : BooksOf C B J I) (outcome : Outcome) (new : BooksOf C B J I) (ksn : Serial) → Seen m old outcome new → IsAcceptedNumber old.answers ksn → IsAcceptedNumber new.answers ksn
stays_accepted m old outcome new ksn seen (code, has) = (code, record { frame = has.frame; mac = has.mac; sent = answers_grow m old outcome new has.frame seen has.sent; reply = has.reply })

-- a number that is accepted was not before, and is then
record IsAcceptedNow (old new : List Frame) (ksn : Serial) : Type 0 where
  not_before : ¬ IsAcceptedNumber old ksn
  now : IsAcceptedNumber new ksn

accepts_now : {C B J I : Type 0} (m : Meanings C B J I) (old : BooksOf C B J I) (outcome : Outcome) (new : BooksOf C B J I) (ksn : Serial) → Seen m old outcome new → HaveOneReply new.answers → Accepts ksn outcome
    → IsAcceptedNow old.answers new.answers ksn
accepts_now m old (came.Accepted n accepted code) new ksn seen one same =
    let up = (given_of m old n accepted code new seen).1 in
    let answer = up.answer in
    let mac = up.says.2.0 in
    let reply : IsReply answer.items ksn code mac = subst (λ (it : Serial). IsReply answer.items it code mac) same up.says.2.1 in
    let sent : Contains new.answers answer = subst (λ list. Contains list answer) (sym (ap (λ books. books.answers) up.rest)) (Contains-push old.answers answer) in
    record {
      not_before = λ before.
          let has = before.1 in
          let stays = answers_grow m old (came.Accepted n accepted code) new has.frame seen has.sent in
          up.says.1 (subst (λ frame. Contains old.answers frame) (one.payment ksn has.frame answer stays sent (before.0, (has.mac, has.reply)) (code, (mac, reply))) has.sent);
      now = (code, record { frame = answer; mac = mac; sent = sent; reply = reply });
    }
accepts_now m old _ new ksn seen one accepts = absurd accepts

module _ {C B J I : Type 0} (m : Meanings C B J I) (laws : ReplyLaws) where
  run_once : (old new : BooksOf C B J I) (events : List Event) (outcomes : List Outcome) → Reached m old → Run m old events outcomes new → AcceptedOnce old.answers outcomes
  run_once old new [] [] reached run = record { once = no_pairs AcceptDifferentNumbers; afresh = λ ksn any. absurd (any_none (Accepts ksn) any) }
  run_once old new [] (outcome ∷ outcomes) reached run = absurd run
  run_once old new (event ∷ events) [] reached run = absurd run
  run_once old new (event ∷ events) (outcome ∷ outcomes) reached run =
      let mid = run.0 in
      let seen = step_seen m old event outcome mid run.1 in
      let reached_mid = reached_step m old mid event outcome reached run.1 in
      let now = λ (ksn : Serial) (accepts : Accepts ksn outcome). accepts_now m old outcome mid ksn seen (reached_safe m laws mid reached_mid).one accepts in
      let later = run_once mid new events outcomes reached_mid run.2 in
      record {
        once = pairs_first AcceptDifferentNumbers outcome outcomes (λ again has ksn first accepts. later.afresh ksn (any_of (Accepts ksn) outcomes again has accepts) (now ksn first).now) later.once;
        afresh = λ ksn any accepted. elim (any_cases (Accepts ksn) outcome outcomes any) [
          | inl here ↦ (now ksn here).not_before accepted
          | inr after ↦ later.afresh ksn after (stays_accepted m old outcome mid ksn seen accepted)
        ];
      }

  -- a call accepts no number twice, and none that was accepted before
  pub leads_once : (old new : BooksOf C B J I) (outcomes : List Outcome) → Reached m old → CallLeads m old outcomes new → AcceptedOnce old.answers outcomes
  leads_once old new outcomes reached leads = run_once old leads.mid leads.events outcomes reached leads.run
