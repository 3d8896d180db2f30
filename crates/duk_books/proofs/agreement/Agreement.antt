-- What the merchants' book has and what stands at the host agree.
use Rattle.std.proofs.Common.{◌≡◌, ◌≢◌, ◌⊎◌, ◌∷◌, [], ℕ, suc, List, Option, Some, None, All, AllPairs, Contains, inl, inr, refl, sym, ap, subst, ◌∙◌, arith}
use Rattle.std.proofs.lemmas.List.Elements.{All-contains, Contains-append_cases}
use Rattle.duk_frame.specs.declared.code.Code.{Code}
use Rattle.duk_frame.specs.declared.code.Code.TheVariants as code
use Rattle.duk_journal.specs.Entry.{reversed_by}
use Rattle.duk_journal.specs.Groups.{Entries}
use Rattle.duk_journal.specs.Standing.{Stands, StandsWith, numbers_in, payment_entry, reversed_in, reversed_numbers}
use Rattle.duk_journal.specs.declared.entry.Decided.{Decided}
use Rattle.duk_journal.specs.declared.entry.Decided.TheVariants.{Payment as PaymentDecided, Reversal as ReversalDecided}
use Rattle.duk_journal.specs.declared.entry.Entry.{Entry}
use Rattle.duk_store.specs.Cell.{Kept}
use Rattle.duk_till.specs.Image.{last_bytes}
use Rattle.duk_till.specs.Last.{number_of}
use Rattle.duk_till.specs.History.{IsOf, payment_of}
use Rattle.duk_till.specs.Till.{IsAtRest, TillOf}
use Rattle.duk_till.specs.declared.last.Last.{Last}
use Rattle.duk_till.specs.declared.last.Last.TheVariants.{Open, Approved, Declined, Undone}
use Rattle.duk_till.specs.declared.last.Payment.{Payment}
use Rattle.duk_till.specs.declared.state.TillState.TheVariants.{Running}
use Rattle.duk_tree.specs.Serial.{Serial}
use Rattle.duk_books.specs.Agree.{Agrees, AreEntriesOf, BooksAgree, AreOfDifferentNumbers, IsInDoubt, StandingAreTold, StandsOf, ToldStand}
use Rattle.duk_books.specs.Books.{BooksOf, Frame, Meanings}
use Rattle.duk_stations.specs.Places.{IsAt}
use Rattle.duk_books.specs.First.{IsFirst, IsNewTill}
use Rattle.duk_books.specs.Reached.{Reached}
use Rattle.duk_books.specs.Sales.{sale_of}
use Rattle.duk_books.specs.inner.Known.{BookLaws, OneReading}
use Rattle.duk_books.proofs.agreement.BooksHold.{BooksHold, Holds, lists_of}
use Rattle.duk_books.proofs.agreement.EachMoveHolds.{holds_after}
use Rattle.duk_books.specs.Came.{AreAskedFor, IsAsked, IsReversedBy, KeepsWhatWasSent}
use Rattle.duk_books.proofs.agreement.Facts.{IsCalledBack, IsRepliedTo, IsSold, none_in, the_only}
use Rattle.duk_books.proofs.agreement.HostHolds.{EntriesHold, none_new, reversed_of}
use Rattle.duk_books.proofs.agreement.Registers.{RegistersHold}
use Rattle.duk_stations.proofs.Terminals.{new_has}
use Rattle.duk_books.proofs.agreement.Tills.{IsInDoubt as IsDoubted, IsKeptOf, TillHolds, one_last, stopped_is_not_running}
use Rattle.duk_books.proofs.moves.HostFinds.{judged_finds}
use Rattle.duk_books.proofs.moves.ReachedByMoves.{reached_all}
use Rattle.duk_books.proofs.moves.StepChanges.{move_change}
use Rattle.duk_stations.proofs.PlacesInLists.{at_contains}

-- ---- entries of one number are equal

abbrev AreNewInTurn : Entries → Type 0
AreNewInTurn entries = AllPairs (λ earlier later. ¬ Contains (numbers_in earlier) later.number) entries

new_later : (first : Entry) (entries : Entries) → AreNewInTurn (first ∷ entries) → AreNewInTurn entries
new_later first entries new = λ i j d below within. new (suc i) (suc j) d (omega arith) (omega arith)

not_later : (first : Entry) (entries : Entries) (entry : Entry) → AreNewInTurn (first ∷ entries) → first.number ≡ entry.number → ¬ Contains entries entry
not_later first entries entry new same (j, within, is) =
    new 0 (suc j) entry (omega arith) (omega (arith, within)) (0, omega arith, same ∙ ap (λ (entry : Entry). entry.number) (sym is))

front_or : (first : Entry) (entries : Entries) (other : Entry) → Contains (first ∷ entries) other → (other ≡ first) ⊎ Contains entries other
front_or first entries other contains = elim (Contains-append_cases (first ∷ []) entries other contains) [
  | inl is ↦ inl (the_only first other is)
  | inr rest ↦ inr rest
]

one_entry : (entries : Entries) (one other : Entry) → AreNewInTurn entries → Contains entries one → Contains entries other → one.number ≡ other.number → one ≡ other
one_entry [] one other new in_one in_other same = absurd (none_in one in_one)
one_entry (first ∷ entries) one other new in_one in_other same = elim (front_or first entries one in_one) [
  | inl one_is ↦ elim (front_or first entries other in_other) [
    | inl other_is ↦ one_is ∙ sym other_is
    | inr later ↦ absurd (not_later first entries other new (ap (λ (entry : Entry). entry.number) (sym one_is) ∙ same) later)
  ]
  | inr later ↦ elim (front_or first entries other in_other) [
    | inl other_is ↦ absurd (not_later first entries one new (ap (λ (entry : Entry). entry.number) (sym other_is) ∙ sym same) later)
    | inr also ↦ one_entry entries one other (new_later first entries new) later also same
  ]
]

-- a last purchase has the number of the payment that it is of
number_is : (payment : Payment) (last : Last) → IsOf payment last → payment.ksn ≡ number_of last
number_is payment (Open ksn amount) is = ap (λ (it : Payment). it.ksn) is
number_is payment (Approved ksn amount) is = ap (λ (it : Payment). it.ksn) is
number_is payment (Declined ksn why) is = is
number_is payment (Undone ksn) is = is

same_decided : (amount sum : ℕ) (one other : Code) → PaymentDecided amount one ≡ PaymentDecided sum other → one ≡ other
same_decided amount sum one other same = cc

-- ---- what is reversed was called back

back_of : (requests : List Frame) (ksn reversed : Serial) → IsReversedBy requests ksn reversed → IsCalledBack requests reversed
back_of requests ksn reversed is = record { frame = is.frame; reversal = is.reversal; sent = is.sent; is_reversal = is.is_reversal; reversed_is = is.reversed_is }

decided_back : (requests : List Frame) (entries : Entries) (number ksn : Serial) (decided : Decided) (mac : List ℕ) → AreAskedFor requests entries → Contains entries (record { number = number; decided = decided; mac = mac })
    → Contains (reversed_in number decided) ksn → IsCalledBack requests ksn
decided_back requests entries number ksn (PaymentDecided amount code) mac came kept has = absurd (none_in ksn has)
decided_back requests entries number ksn (ReversalDecided counter state) mac came kept has =
    subst (λ (it : Serial). IsCalledBack requests it) (sym (the_only (reversed_by number counter) ksn has))
    (back_of requests number (reversed_by number counter) (came (record { number = number; decided = ReversalDecided counter state; mac = mac }) kept))

pub called_back : (requests : List Frame) (entries : Entries) (ksn : Serial) → AreAskedFor requests entries → Contains (reversed_numbers entries) ksn → IsCalledBack requests ksn
called_back requests entries ksn came has =
    let it = reversed_of entries ksn has in
    decided_back requests entries it.0.number ksn it.0.decided it.0.mac came it.1 it.2

-- ---- the books agree

module _ {C B J I : Type 0} (m : Meanings C B J I) (books : BooksOf C B J I) (begun : List Serial) (holds : BooksHold m books begun) (entries : Entries) (hold : EntriesHold books.requests books.answers entries) where
  pub told_stand : (t : ℕ) → ToldStand entries books.owners books.sales t
  told_stand t payment sold =
      let good = holds.sold t payment.ksn payment.amount sold in
      let paid = hold.replied payment.ksn code.Approved good.replied in
      let asked : IsAsked books.requests payment.ksn paid.amount = hold.came (payment_entry payment.ksn paid.amount code.Approved paid.mac) paid.kept in
      let same : paid.amount ≡ payment.amount = holds.one_amount payment.ksn paid.amount payment.amount asked good.awaited.asked in
      record {
        owned = good.awaited.owned;
        stands = record {
          stands = record {
            approved = record { amount = paid.amount; mac = paid.mac; kept = paid.kept };
            not_undone = λ has. good.awaited.not_back (called_back books.requests entries payment.ksn hold.came has);
          };
          amount_is = same;
        };
      }

  declined_stands : (ksn : Serial) (why : Code) → why ≢ code.Approved → IsRepliedTo books.answers ksn why → ¬ Stands entries ksn
  declined_stands ksn why other replied stands =
      let paid = hold.replied ksn why replied in
      let has = stands.approved in
      let one = payment_entry ksn paid.amount why paid.mac in
      let two = payment_entry ksn has.amount code.Approved has.mac in
      let same : one ≡ two = one_entry entries one two hold.new_numbers.new paid.kept has.kept refl in
      other (same_decided paid.amount has.amount why code.Approved (ap (λ (entry : Entry). entry.decided) same))

  -- a payment that stands was asked for
  pub asked_for : (ksn : Serial) (amount : ℕ) → StandsWith entries ksn amount → IsAsked books.requests ksn amount
  asked_for ksn amount is =
      let has = is.stands.approved in
      subst (λ sum. IsAsked books.requests ksn sum) is.amount_is (hold.came (payment_entry ksn has.amount code.Approved has.mac) has.kept)

  -- a payment that stands was told, or is in doubt
  told_or_doubted : (t : ℕ) (till : TillOf C B) (payment : Payment) → IsAt books.tills t till → StandsOf entries books.owners t payment
      → Contains books.sales (sale_of t payment) ⊎ IsDoubted m.book payment.ksn payment.amount till
  told_or_doubted t till payment at is =
      elim ((holds.tills t till at).known payment.ksn payment.amount (asked_for payment.ksn payment.amount is.stands) is.owned) [
        | inl settled ↦ elim settled [
          | inl sold ↦ inl sold
          | inr known ↦ elim known [
            | inl declined ↦ absurd (declined_stands payment.ksn declined.0 declined.1 declined.2 is.stands.stands)
            | inr undone ↦ absurd (is.stands.stands.not_undone (hold.undone payment.ksn undone))
          ]
        ]
        | inr doubt ↦ inr doubt
      ]

  pub standing_told : (t : ℕ) (till : TillOf C B) (last : Option Last) → IsAt books.tills t till → till.state ≡ Running last → StandingAreTold entries books.owners books.sales t last
  standing_told t till last at runs payment is = elim (told_or_doubted t till payment at is) [
    | inl sold ↦ inl sold
    | inr doubt ↦ inr (doubt.runs last runs)
  ]

  -- what a book may keep of two payments is of one number
  one_number : OneReading → (kept : Kept) (one other : Payment) → IsKeptOf one.ksn one.amount kept → IsKeptOf other.ksn other.amount kept → one.ksn ≡ other.ksn
  one_number reading kept one other is also =
      let same = one_last reading is.last also.last is.fields also.fields (sym is.kept_is ∙ also.kept_is) in
      number_is one is.last is.is_of ∙ ap number_of same ∙ sym (number_is other also.last also.is_of)

  doubted : (t : ℕ) (till : TillOf C B) (payment : Payment) → IsAt books.tills t till → IsInDoubt entries books.owners books.sales t payment → IsDoubted m.book payment.ksn payment.amount till
  doubted t till payment at is = elim (told_or_doubted t till payment at is.stands) [
    | inl sold ↦ absurd (is.not_told sold)
    | inr doubt ↦ doubt
  ]

  one_in_doubt : OneReading → (t : ℕ) (till : TillOf C B) (kept : Kept) (one other : Payment) → IsAt books.tills t till → (m.book.state_of till.book).found kept
      → IsInDoubt entries books.owners books.sales t one → IsInDoubt entries books.owners books.sales t other → one ≡ other
  one_in_doubt reading t till kept one other at found is also =
      let number = one_number reading kept one other ((doubted t till one at is).found kept found) ((doubted t till other at also).found kept found) in
      let asked = asked_for one.ksn one.amount is.stands.stands in
      let amount : one.amount ≡ other.amount = holds.one_amount other.ksn one.amount other.amount (subst (λ (it : Serial). IsAsked books.requests it one.amount) number asked) (asked_for other.ksn other.amount also.stands.stands) in
      ap (λ (it : Serial). payment_of it one.amount) number ∙ ap (λ sum. payment_of other.ksn sum) amount

  pub agrees : (t : ℕ) (till : TillOf C B) → IsAt books.tills t till → IsAtRest till.state → Agrees entries books.owners books.sales t
  agrees t till at rest = record {
    told_stand = told_stand t;
    standing_told = λ payment is. elim (standing_told t till rest.last at rest.runs payment is) [
      | inl sold ↦ sold
      | inr in_doubt ↦ absurd (rest.closed payment.ksn payment.amount in_doubt)
    ];
  }

pub entries_hold : {C B J I : Type 0} (m : Meanings C B J I) (books : BooksOf C B J I) (begun : List Serial) (entries : Entries) → BooksHold m books begun → AreEntriesOf m books entries → EntriesHold books.requests books.answers entries
entries_hold m books begun entries holds (inl judges) = judged_finds m.host (EntriesHold books.requests books.answers) books.host entries holds.host judges
entries_hold m books begun entries holds (inr found) = holds.host.entries entries found

books_agree : {C B J I : Type 0} (m : Meanings C B J I) (books : BooksOf C B J I) → OneReading → Holds m books → BooksAgree m books
books_agree m books reading (begun, holds) = record {
  once = holds.once;
  one_in_doubt = λ t till entries kept one other at found are. one_in_doubt m books begun holds entries (entries_hold m books begun entries holds are) reading t till kept one other at found;
  told = λ t entries are. told_stand m books begun holds entries (entries_hold m books begun entries holds are) t;
  runs = λ t till last entries at runs are. standing_told m books begun holds entries (entries_hold m books begun entries holds are) t till last at runs;
  at_rest = λ t till entries at rest are. agrees m books begun holds entries (entries_hold m books begun entries holds are) t till at rest;
}

-- ---- at first

module _ {C B J I : Type 0} (m : Meanings C B J I) (books : BooksOf C B J I) (is : IsFirst m books) where
  nothing_asked : (ksn : Serial) (amount : ℕ) → ¬ IsAsked books.requests ksn amount
  nothing_asked ksn amount asked = none_in asked.frame (subst (λ list. Contains list asked.frame) is.no_requests asked.sent)

  nothing_back : (ksn : Serial) → ¬ IsCalledBack books.requests ksn
  nothing_back ksn back = none_in back.frame (subst (λ list. Contains list back.frame) is.no_requests back.sent)

  nothing_sold : (t : ℕ) (ksn : Serial) (amount : ℕ) → ¬ IsSold (lists_of books []) t ksn amount
  nothing_sold t ksn amount sold = none_in (sale_of t (payment_of ksn amount)) (subst (λ list. Contains list (sale_of t (payment_of ksn amount))) is.no_sales sold)

  kept_nothing : (last : Last) → Some (last_bytes last) ≡ None → ⊥
  kept_nothing last same = absurd (cc)

  new_till : (t : ℕ) (till : TillOf C B) → IsNewTill m till → TillHolds m (lists_of books []) t till
  new_till t till made = record {
    terminal = new_has m.cell (RegistersHold (lists_of books []) t) till.terminal made.cell.honest (λ kept found. (made.cell.finds kept).0 found) made.terminal_stopped (λ ksn has. absurd (none_in ksn has));
    book = record {
      honest = made.book.honest;
      runs = λ last runs. absurd (stopped_is_not_running till.state last made.stopped runs);
      only = λ last runs. absurd (stopped_is_not_running till.state last made.stopped runs);
      found = λ last fields found. absurd (kept_nothing last ((made.book.finds (Some (last_bytes last))).0 found));
    };
    waits = λ ksn amount pending waits_on. absurd (stopped_is_not_running till.state (Some (Open ksn amount)) made.stopped waits_on);
    entered = λ ksn amount approved. absurd (stopped_is_not_running till.state (Some (Approved ksn amount)) made.stopped approved);
    known = λ ksn amount asked owned. absurd (nothing_asked ksn amount asked);
  }

  pub new_at : (tills : List (TillOf C B)) → All (IsNewTill m) tills → (t : ℕ) (till : TillOf C B) → IsAt tills t till → IsNewTill m till
  new_at tills made t till at = All-contains (IsNewTill m) tills till made (at_contains tills t till at)

  no_entries : EntriesHold books.requests books.answers []
  no_entries = record {
    new_numbers = none_new;
    came = λ entry is_in. absurd (none_in entry is_in);
    replied = λ ksn code replied. absurd (none_in replied.frame (subst (λ list. Contains list replied.frame) is.no_answers replied.sent));
    undone = λ ksn undone. absurd (none_in undone.frame (subst (λ list. Contains list undone.frame) is.no_answers undone.sent));
  }

  pub first_holds : Holds m books
  first_holds = (
    [],
    record {
      once = subst (AllPairs AreOfDifferentNumbers) (sym is.no_sales) (λ i j d below within. absurd (omega (arith, within)));
      one_owner = λ iksn t owns. absurd (none_in _ (subst (λ list. Contains list (record { iksn = iksn; t = t })) is.no_owners owns));
      begun_owned = λ ksn has. absurd (none_in ksn has);
      asked = λ ksn amount asked. absurd (nothing_asked ksn amount asked);
      one_amount = λ ksn one other asked. absurd (nothing_asked ksn one asked);
      called_back = λ ksn back. absurd (nothing_back ksn back);
      sold = λ t ksn amount sold. absurd (nothing_sold t ksn amount sold);
      tills = λ t till at. new_till t till (new_at books.tills is.tills t till at);
      host = record {
        honest = is.host.journal.honest;
        entries = λ entries found. subst (λ (it : Entries). EntriesHold books.requests books.answers it) (sym ((is.host.journal.finds entries).0 found)) no_entries;
        runs = inl is.host.stopped;
      };
    },
  )

-- what is reached holds
pub reached_holds : {C B J I : Type 0} (m : Meanings C B J I) (laws : BookLaws m) (books : BooksOf C B J I) → Reached m books → Holds m books
reached_holds {C} {B} {J} {I} m laws books reached =
    reached_all m (λ (it : BooksOf C B J I). Holds m it) (first_holds m)
    (λ old new was moves. holds_after m laws old was.0 was.1 new (move_change m old new moves)) books reached

-- so the books agree
pub reached_agrees : {C B J I : Type 0} (m : Meanings C B J I) (laws : BookLaws m) (books : BooksOf C B J I) → Reached m books → BooksAgree m books
reached_agrees m laws books reached = books_agree m books laws.calls.reading (reached_holds m laws books reached)

-- and the host keeps what was sent
pub reached_keeps : {C B J I : Type 0} (m : Meanings C B J I) (laws : BookLaws m) (books : BooksOf C B J I) → Reached m books → KeepsWhatWasSent m books
reached_keeps {C} {B} {J} {I} m laws books reached =
    let held = reached_holds m laws books reached in
    λ entries are. (entries_hold m books held.0 entries held.1 are).came
