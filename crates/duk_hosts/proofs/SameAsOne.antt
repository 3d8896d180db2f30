-- One host could have done what many did.
use Rattle.std.proofs.Common.{◌≡◌, ◌<◌, ◌≤◌, ◌-◌, ◌*◌, ℕ, List, [], ◌∷◌, ◌++◌, Contains, drop, length, map, sym, ap, subst, arith, length-append}
use Rattle.std.proofs.lemmas.Bool.Decides.{nat_tests}
use Rattle.duk_host.specs.Judgement.{Decision}
use Rattle.duk_journal.specs.Groups.{Entries}
use Rattle.duk_journal.specs.Standing.{payment_entry}
use Rattle.duk_journal_host.specs.Judged.{AreJudged}
use Rattle.duk_journal_host.specs.Judgement.{IsJudged, LineBasis, line_basis, reversal_entry, room_for_payments, with_entries}
use Rattle.duk_journal_host.specs.Latest.{latest_entries, most_latest}
use Rattle.duk_journal_host.specs.declared.settlement.Settled.{Settled}
use Rattle.duk_journal_host.specs.declared.settlement.Settled.TheVariants as settled
use Rattle.duk_hosts.specs.Book.{AtMost, Book, Bound, NoBound}
use Rattle.duk_hosts.specs.Events.{Event, Hosts, IsHistory, Turn, kept_after}
use Rattle.duk_hosts.specs.OneHost.{DidAsOne, DoesFor, InTurn, IsTurnOf}
use Rattle.duk_hosts.proofs.Histories.{StepsFollow, run_of}
use Rattle.duk_hosts.proofs.Settling.{HasRoom, KnownTooIf}
use Rattle.duk_hosts.proofs.Turns.{StepLaws, refused_turn, same_room, settled_turn}

-- ---- a journal that does for a book

not_full : room_for_payments 1 1 ≡ 0 → ⊥
not_full is = omega (arith, is)

payments_left : (capacity room : ℕ) → capacity ≤ 16 * room → 0 < room → 0 < room_for_payments capacity room
payments_left capacity room below left = grind (arith, nat_tests)

room_in : (bound : Bound) (last entries : Entries) (capacity : ℕ) → DoesFor bound last capacity → length entries ≤ length last → HasRoom bound entries capacity (capacity - length entries)
room_in (AtMost most) last entries capacity does few = subst (λ capacity. HasRoom (AtMost most) entries capacity (capacity - length entries)) (sym does) (same_room (AtMost most) entries)
room_in NoBound last entries capacity does few =
    let left : 0 < capacity - length entries = omega (arith, does.0, few) in
    record {
      full = λ none. absurd (omega (arith, none));
      left = λ some. left;
      full_payments = λ none. absurd (not_full none);
      left_payments = λ some. payments_left capacity (capacity - length entries) (omega (arith, does.0, few)) left;
    }

none_over : (count : ℕ) → count ≤ most_latest → 0 ≡ count - most_latest
none_over count few = omega (arith, few)

all_latest : (entries : Entries) → length entries ≤ most_latest → entries ≡ latest_entries entries
all_latest entries few = ap (λ count. drop count entries) (none_over (length entries) few)

known_in : (bound : Bound) (last entries : Entries) (capacity : ℕ) (done : Settled) → DoesFor bound last capacity → length entries ≤ length last → KnownTooIf bound entries done
known_in (AtMost most) last entries capacity (settled.Payment purchase settlement) does few = λ code again knows. record { amount = knows.amount; kept = knows.kept; not_undone = knows.not_undone }
known_in (AtMost most) last entries capacity (settled.Reversal reversal settlement) does few = λ state again knows. knows
known_in NoBound last entries capacity (settled.Payment purchase settlement) does few = λ code again knows. record {
  amount = knows.amount;
  kept = subst (λ kept. Contains kept (payment_entry purchase.number knows.amount code purchase.mac)) (all_latest entries (omega (arith, does.1, few))) knows.kept;
  not_undone = knows.not_undone;
}
known_in NoBound last entries capacity (settled.Reversal reversal settlement) does few =
    λ state again knows. subst (λ kept. Contains kept (reversal_entry reversal state)) (all_latest entries (omega (arith, does.1, few))) knows

pub did_as_one : (laws : StepLaws) (hosts : Hosts) (book : Book) (events : List Event) (capacity : ℕ) → IsHistory hosts book events → DoesFor book.bound (kept_after book events) capacity → DidAsOne hosts book events capacity
did_as_one laws hosts book events capacity history does =
    let last = kept_after book events in
    let follow : StepsFollow hosts book (length last) (IsTurnOf hosts capacity) = record {
      refused = λ entries ask answer few is. refused_turn laws hosts capacity entries ask answer is;
      settled = λ entries ask candidate done answer few is settles answers.
          settled_turn laws hosts book.bound capacity entries ask candidate done answer (room_in book.bound last entries capacity does few) (known_in book.bound last entries capacity done does few) is settles answers;
    } in
    let run = run_of hosts book (length last) (IsTurnOf hosts capacity) follow events history (omega arith) in
    record { turns = run.turns; asked = run.asked; judged = run.judged; given = run.given }

-- ---- with one issuer

room_left : (capacity : ℕ) (entries added : Entries) → capacity - length entries - length added ≡ capacity - length (entries ++ added)
room_left capacity entries added = omega (arith, length-append entries added)

module _ (hosts : Hosts) (decides : Decision) (capacity : ℕ) (one_issuer : (host : ℕ) → hosts.decides host ≡ decides) where
  abbrev basis_at : Entries → LineBasis
  basis_at entries = line_basis hosts.keys entries capacity (capacity - length entries) decides

  then_at : (entries added : Entries) → basis_at (entries ++ added) ≡ with_entries (basis_at entries) added
  then_at entries added = ap (λ room. line_basis hosts.keys (entries ++ added) capacity room decides) (sym (room_left capacity entries added))

  pub judged_in_turn : (entries added : Entries) (turns : List Turn) → InTurn (IsTurnOf hosts capacity) entries turns added
      → AreJudged (basis_at entries) (map (λ (one : Turn). one.ask.frame) turns) (map (λ (one : Turn). one.answer) turns) added
  judged_in_turn entries added [] judged = judged
  judged_in_turn entries added (one ∷ turns) judged =
      let first : IsJudged (basis_at entries) one.ask.frame one.answer judged.0 =
      subst (λ decides. IsJudged (line_basis hosts.keys entries capacity (capacity - length entries) decides) one.ask.frame one.answer judged.0) (one_issuer one.ask.host) judged.2 in
      let rest = judged_in_turn (entries ++ judged.0) judged.1 turns judged.3 in
      let others = subst (λ basis. AreJudged basis (map (λ (one : Turn). one.ask.frame) turns) (map (λ (one : Turn). one.answer) turns) judged.1) (then_at entries judged.0) rest in
      (judged.0, judged.1, first, others, judged.4)
