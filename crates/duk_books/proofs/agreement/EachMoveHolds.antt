-- How each move keeps what holds.
use Rattle.std.proofs.Common.{◌≡◌, ◌≢◌, ◌⊎◌, ◌++◌, ◌∷◌, [], ℕ, List, Option, Some, None, Err, AllPairs, Contains, get_or, inl, inr, refl, sym, ap, subst, ◌∙◌}
use Rattle.std.proofs.lemmas.List.Elements.{Contains-append_cases, Contains-append_left, Contains-get_or, Contains-push_cases}
use Rattle.std.proofs.lemmas.List.Quantifiers.{all_pairs_push}
use Rattle.duk_journal_host.specs.Group.{AnswersFrames}
use Rattle.duk_term.specs.Load.{Loading}
use Rattle.duk_term.specs.declared.purchase.Purchase.{Purchase}
use Rattle.duk_store.specs.declared.fault.StoreFault.{StoreFault}
use Rattle.duk_till.specs.Begin.{NumberIsLost, TillBeginRefused}
use Rattle.duk_till.specs.History.{payment_of}
use Rattle.duk_till.specs.Lifetime.{ArmBook, ArmTerminal, Begin, Call, Reverse}
use Rattle.duk_till.specs.Till.{TillOf, approved_in}
use Rattle.duk_till.specs.declared.fault.TillFault.{TillFault}
use Rattle.duk_till.specs.declared.fault.TillFault.TheVariants as fault
use Rattle.duk_till.specs.declared.last.Last.TheVariants.{Open, Approved, Declined, Undone}
use Rattle.duk_till.specs.declared.last.Payment.{Payment}
use Rattle.duk_till.specs.declared.state.TillState.{TillState}
use Rattle.duk_till.specs.declared.state.TillState.TheVariants.{Stopped, Running}
use Rattle.duk_tree.specs.Serial.{Serial}
use Rattle.duk_books.specs.Agree.{AreOfDifferentNumbers}
use Rattle.duk_books.specs.Books.{BooksOf, Frame, Meanings}
use Rattle.duk_stations.specs.Places.{ChangesOnly}
use Rattle.duk_books.specs.Load.{ChangesOwners, IsGiven, TakesLoad}
use Rattle.duk_stations.specs.Owner.{BecomesOwner, IsOwner}
use Rattle.duk_books.specs.Sales.{TakesSale, sale_of}
use Rattle.duk_books.specs.declared.outcome.Outcome.{Outcome}
use Rattle.duk_books.specs.declared.outcome.Outcome.TheVariants as came
use Rattle.duk_stations.specs.declared.owner.Owner.{Owner}
use Rattle.duk_books.specs.declared.sales.Sale.{Sale}
use Rattle.duk_books.specs.inner.Known.{BookLaws}
use Rattle.duk_books.proofs.agreement.BooksHold.{BooksHold, Holds, begun_owned_too, grow_same, lists_hold, lists_of, one_till, set_of, tills_after}
use Rattle.duk_books.specs.Came.{IsAsked}
use Rattle.duk_books.proofs.agreement.Facts.{GrowBeside, Lists, replied_before, the_only, undone_before}
use Rattle.duk_books.proofs.agreement.HostHolds.{HostHolds, answered_holds, refused_holds, touched_holds}
use Rattle.duk_stations.proofs.Owners.{one_owner_stays, owner_stays, owns_loaded}
use Rattle.duk_stations.proofs.PlacesInLists.{before_at}
use Rattle.duk_books.proofs.moves.KeysStay.{owners_go}
use Rattle.duk_books.proofs.agreement.QuietCalls.{begin_refused_so, book_armed, load_refused, lost, reverse_refused, terminal_armed, till_loaded, with_begun}
use Rattle.duk_books.proofs.agreement.SentFramesHold.{reverse_holds, send_holds}
use Rattle.duk_books.proofs.agreement.TellingCalls.{sales_stay, tells, with_sales}
use Rattle.duk_books.proofs.agreement.Tills.{IsGood, TillHolds, good_beside, till_beside}
use Rattle.duk_books.proofs.moves.StepChanges.{CallsOnly, Change, IsQuiet, IsTelling, answered, host, load, nothing, quiet, reverse, send, tell, unanswered}

some_is : {A : Type 0} (one other : A) → Some one ≡ Some other → one ≡ other
some_is one other same = cc

by_payment : (one other : Payment) → one ≡ other → Running (Some (Approved one.ksn one.amount)) ≡ Running (Some (Approved other.ksn other.amount))
by_payment one other same = ap (λ (it : Payment). Running (Some (Approved it.ksn it.amount))) same

module _ {C B J I : Type 0} (m : Meanings C B J I) (laws : BookLaws m) (old : BooksOf C B J I) (begun : List Serial) (holds : BooksHold m old begun) where
  abbrev Before : Lists
  Before = lists_of old begun

  -- ---- a till goes on, and nothing else changes

  with_tills : (t : ℕ) (P : TillOf C B → TillOf C B → Type 0) (new : BooksOf C B J I) → (change : ChangesOnly t P old.tills new.tills) → TillHolds m Before t change.after → BooksHold m (record old { tills = new.tills }) begun
  with_tills t P new change now = record {
    once = holds.once;
    one_owner = holds.one_owner;
    begun_owned = holds.begun_owned;
    asked = holds.asked;
    one_amount = holds.one_amount;
    called_back = holds.called_back;
    sold = holds.sold;
    tills = tills_after m t P old.tills new.tills Before Before change holds.tills (λ u apart. grow_same u Before) now;
    host = holds.host;
  }

  -- a number is lost
  grow_begun : (t u : ℕ) (ksn : Serial) → IsOwner old.owners ksn.iksn t → u ≢ t → GrowBeside u Before (with_begun Before ksn)
  grow_begun t u ksn owned apart = record {
    owner = λ iksn u is. is;
    begun = λ other has is. elim (Contains-append_cases begun (ksn ∷ []) other has) [
      | inl before ↦ (before, is)
      | inr here ↦ absurd (apart (one_till old.owners ksn.iksn t u owned (subst (λ (it : Serial). IsOwner old.owners it.iksn u) (the_only ksn other here) is)))
    ];
    begun_stays = λ other has. Contains-append_left begun (ksn ∷ []) other has;
    asked = λ other amount is owned. (is, owned);
    asked_stays = λ other amount is. is;
    called_back = λ other is owned. is;
    replied = λ other code is. is;
    undone = λ other is. is;
    sold = λ other amount is. is;
    sold_stays = λ other amount is. is;
  }

  good_begun : (t : ℕ) (ksn number : Serial) (amount : ℕ) → IsGood Before t number amount → IsGood (with_begun Before ksn) t number amount
  good_begun t ksn number amount is = record { awaited = record { asked = is.awaited.asked; not_back = is.awaited.not_back; owned = is.awaited.owned }; replied = is.replied }

  loses : (t : ℕ) (P : TillOf C B → TillOf C B → Type 0) (new : BooksOf C B J I) (purchase : Purchase) (why : StoreFault) → (change : ChangesOnly t P old.tills new.tills)
      → NumberIsLost m.cell m.book purchase change.before change.after why → Holds m (record old { tills = new.tills })
  loses t P new purchase why change is =
      let before = holds.tills t change.before (before_at t P old.tills new.tills change) in
      let it = is.terminal.begun in
      let set = set_of m Before t change.before it.set it.takes.pending before it.takes.had in
      let owned : IsOwner old.owners is.ksn.iksn t = subst (λ (it : Serial). IsOwner old.owners it.iksn t) (sym is.terminal.ksn_is) set.owned in (
        begun ++ is.ksn ∷ [],
        record {
          once = holds.once;
          one_owner = holds.one_owner;
          begun_owned = begun_owned_too m old begun holds t is.ksn owned;
          asked = λ other amount asked. Contains-append_left begun (is.ksn ∷ []) other (holds.asked other amount asked);
          one_amount = holds.one_amount;
          called_back = λ other back. Contains-append_left begun (is.ksn ∷ []) other (holds.called_back other back);
          sold = λ u other amount sold. good_begun u is.ksn other amount (holds.sold u other amount sold);
          tills = tills_after m t P old.tills new.tills Before (with_begun Before is.ksn) change holds.tills (λ u apart. grow_begun t u is.ksn owned apart)
              (lost laws.calls m t purchase Before change.before change.after why (lists_hold m old begun holds t) before is);
          host = holds.host;
        },
      )

  not_store : (why : TillFault) → ((store : StoreFault) → why ≢ fault.Store store) ⊎ ((store : StoreFault) × (why ≡ fault.Store store))
  not_store fault.Stopped = inl (λ store same. absurd (cc))
  not_store fault.Open = inl (λ store same. absurd (cc))
  not_store fault.NothingOpen = inl (λ store same. absurd (cc))
  not_store (fault.Terminal why) = inl (λ store same. absurd (cc))
  not_store (fault.Store why) = inr (why, refl)

  quiet_holds : (t : ℕ) (call : Call) (new : BooksOf C B J I) → IsQuiet call → CallsOnly m t call old.tills new.tills → Holds m (record old { tills = new.tills })
  quiet_holds t (Begin purchase (Err why)) new is change = elim (not_store why) [
    | inl other ↦ (begun, with_tills t _ new change (begin_refused_so laws.calls m t purchase Before change.before change.after why other (holds.tills t change.before (before_at t _ old.tills new.tills change)) change.changed))
    | inr store ↦ loses t _ new purchase store.0 change (subst (λ why. TillBeginRefused m.cell m.book purchase change.before change.after why) store.1 change.changed)
  ]
  quiet_holds t (Reverse (Err why)) new is change =
      (begun, with_tills t _ new change (reverse_refused laws.calls m t Before why change.before change.after (holds.tills t change.before (before_at t _ old.tills new.tills change)) change.changed))
  quiet_holds t (ArmTerminal steps) new is change =
      (begun, with_tills t _ new change (terminal_armed laws.calls m t Before change.before change.after (holds.tills t change.before (before_at t _ old.tills new.tills change)) change.changed))
  quiet_holds t (ArmBook steps) new is change =
      (begun, with_tills t _ new change (book_armed laws.calls m t Before change.before change.after (holds.tills t change.before (before_at t _ old.tills new.tills change)) change.changed))
  quiet_holds t _ new is change = absurd is

  -- ---- a load

  loaded_begun : (outcome : Outcome) (loaded t u : ℕ) (owners : List Owner) (ksn : Serial) → ChangesOwners outcome old.owners loaded t owners → Contains begun ksn → IsOwner owners ksn.iksn u → IsOwner old.owners ksn.iksn u
  loaded_begun outcome loaded t u owners ksn changes has owned =
      let was = holds.begun_owned ksn has in
      let stays = owner_stays old.owners owners (owners_go outcome old.owners loaded t owners changes) ksn.iksn was.0 was.1 in
      subst (λ it. IsOwner old.owners ksn.iksn it) (one_till owners ksn.iksn u was.0 owned stays) was.1

  grow_loaded : (outcome : Outcome) (loaded t u : ℕ) (owners : List Owner) → ChangesOwners outcome old.owners loaded t owners → GrowBeside u Before (record Before { owners = owners })
  grow_loaded outcome loaded t u owners changes = record {
    owner = owner_stays old.owners owners (owners_go outcome old.owners loaded t owners changes);
    begun = λ ksn has owned. (has, loaded_begun outcome loaded t u owners ksn changes has owned);
    begun_stays = λ ksn has. has;
    asked = λ ksn amount is owned. (is, loaded_begun outcome loaded t u owners ksn changes (holds.asked ksn amount is) owned);
    asked_stays = λ ksn amount is. is;
    called_back = λ ksn is owned. is;
    replied = λ ksn code is. is;
    undone = λ ksn is. is;
    sold = λ ksn amount is. is;
    sold_stays = λ ksn amount is. is;
  }

  load_holds_till : (t iksn : ℕ) (outcome : Outcome) (new : BooksOf C B J I) (is : IsGiven m old t iksn outcome new) → (lists : Lists) → lists.owners ≡ new.owners → TillHolds m lists t is.till.before
      → TakesLoad m.cell m.book t is.asked outcome is.till.before is.till.after → TillHolds m lists t is.till.after
  load_holds_till t iksn (came.Loaded u number) new is lists same before takes =
      let owned = owns_loaded old.owners iksn t new.owners is.may.not_elsewhere is.owners in
      till_loaded laws.calls m t lists is.asked is.till.before is.till.after before
      (subst (λ owners. IsOwner owners is.asked.iksn t) (sym same) (subst (λ it. IsOwner new.owners it t) (sym (ap (λ (it : Loading). it.iksn) is.issued.asked_is)) owned)) takes.2
  load_holds_till t iksn (came.TillFaulted u why) new is lists same before takes =
      load_refused laws.calls m t lists is.asked why is.till.before is.till.after before
      (λ store why_is.
      let changes : BecomesOwner old.owners iksn t new.owners = subst (λ it. ChangesOwners (came.TillFaulted u it) old.owners iksn t new.owners) why_is is.owners in
      let owned = owns_loaded old.owners iksn t new.owners is.may.not_elsewhere changes in
      subst (λ owners. IsOwner owners is.asked.iksn t) (sym same) (subst (λ it. IsOwner new.owners it t) (sym (ap (λ (it : Loading). it.iksn) is.issued.asked_is)) owned)) takes.1
  load_holds_till t iksn _ new is lists same before takes = absurd takes

  load_holds : (t iksn : ℕ) (outcome : Outcome) (new : BooksOf C B J I) → IsGiven m old t iksn outcome new → Holds m (record old { tills = new.tills; owners = new.owners })
  load_holds t iksn outcome new is =
      let after : Lists = record Before { owners = new.owners } in
      let go = owners_go outcome old.owners iksn t new.owners is.owners in
      let grow = λ (u : ℕ). grow_loaded outcome iksn t u new.owners is.owners in
      let before = till_beside m t Before after is.till.before (grow t) (holds.tills t is.till.before (before_at t _ old.tills new.tills is.till)) in (
        begun,
        record {
          once = holds.once;
          one_owner = one_owner_stays old.owners new.owners go holds.one_owner;
          begun_owned = λ ksn has. let was = holds.begun_owned ksn has in (was.0, owner_stays old.owners new.owners go ksn.iksn was.0 was.1);
          asked = holds.asked;
          one_amount = holds.one_amount;
          called_back = holds.called_back;
          sold = λ u ksn amount sold. good_beside u Before after ksn amount (grow u) (holds.sold u ksn amount sold);
          tills = tills_after m t _ old.tills new.tills Before after is.till holds.tills (λ u apart. grow u) (load_holds_till t iksn outcome new is after refl before is.till.changed);
          host = holds.host;
        },
      )

  -- ---- something is told

  sale_cases : (t u : ℕ) (before after : List Sale) (approved : Option Payment) (payment : Payment) → TakesSale before t approved after → Contains after (sale_of u payment)
      → Contains before (sale_of u payment) ⊎ ((t ≡ u) × (approved ≡ Some payment))
  sale_cases t u before after None payment takes has = inl (subst (λ sales. Contains sales (sale_of u payment)) takes has)
  sale_cases t u before after (Some it) payment (inl there) has = inl (subst (λ sales. Contains sales (sale_of u payment)) there.1 has)
  sale_cases t u before after (Some it) payment (inr joins) has = elim (Contains-push_cases before (sale_of t it) (sale_of u payment) (subst (λ sales. Contains sales (sale_of u payment)) joins.1 has)) [
    | inl was ↦ inl was
    | inr is ↦ inr (ap (λ (it : Sale). it.t) is, ap (λ (it : Sale). Some it.payment) is)
  ]

  approved_of : (state : TillState) (payment : Payment) → approved_in state ≡ Some payment → state ≡ Running (Some (Approved payment.ksn payment.amount))
  approved_of Stopped payment is = absurd (cc)
  approved_of (Running None) payment is = absurd (cc)
  approved_of (Running (Some (Open ksn amount))) payment is = absurd (cc)
  approved_of (Running (Some (Approved ksn amount))) payment is = by_payment (payment_of ksn amount) payment (some_is (payment_of ksn amount) payment is)
  approved_of (Running (Some (Declined ksn why))) payment is = absurd (cc)
  approved_of (Running (Some (Undone ksn))) payment is = absurd (cc)

  grow_told : (t u : ℕ) (sales : List Sale) (approved : Option Payment) → TakesSale old.sales t approved sales → u ≢ t → GrowBeside u Before (with_sales Before sales)
  grow_told t u sales approved takes apart = record {
    owner = λ iksn v is. is;
    begun = λ ksn has is. (has, is);
    begun_stays = λ ksn has. has;
    asked = λ ksn amount is owned. (is, owned);
    asked_stays = λ ksn amount is. is;
    called_back = λ ksn is owned. is;
    replied = λ ksn code is. is;
    undone = λ ksn is. is;
    sold = λ ksn amount has. elim (sale_cases t u old.sales sales approved (payment_of ksn amount) takes has) [
      | inl before ↦ before
      | inr here ↦ absurd (apart (sym here.0))
    ];
    sold_stays = λ ksn amount has. sales_stay t old.sales sales approved (sale_of u (payment_of ksn amount)) takes has;
  }

  good_told : (sales : List Sale) (u : ℕ) (ksn : Serial) (amount : ℕ) → IsGood Before u ksn amount → IsGood (with_sales Before sales) u ksn amount
  good_told sales u ksn amount is = record { awaited = record { asked = is.awaited.asked; not_back = is.awaited.not_back; owned = is.awaited.owned }; replied = is.replied }

  -- a sale under the number of another one is that one
  same_sale : (t : ℕ) (payment : Payment) (sale : Sale) → Contains old.sales sale → IsAsked old.requests payment.ksn payment.amount → IsOwner old.owners payment.ksn.iksn t → sale.payment.ksn ≡ payment.ksn
      → sale ≡ sale_of t payment
  same_sale t payment sale has asked owned same =
      let good = holds.sold sale.t sale.payment.ksn sale.payment.amount has in
      let amounts : sale.payment.amount ≡ payment.amount = holds.one_amount payment.ksn sale.payment.amount payment.amount (subst (λ (it : Serial). IsAsked old.requests it sale.payment.amount) same good.awaited.asked) asked in
      let till : sale.t ≡ t = one_till old.owners payment.ksn.iksn t sale.t owned (subst (λ (it : Serial). IsOwner old.owners it.iksn sale.t) same good.awaited.owned) in
      ap (λ u. sale_of u sale.payment) till ∙ ap (λ (it : Serial). sale_of t (payment_of it sale.payment.amount)) same ∙ ap (λ amount. sale_of t (payment_of payment.ksn amount)) amounts

  -- each number stands once in the merchants' book
  once_told : (t : ℕ) (sales : List Sale) (approved : Option Payment) → TakesSale old.sales t approved sales → ((payment : Payment) → approved ≡ Some payment → IsAsked old.requests payment.ksn payment.amount)
      → ((payment : Payment) → approved ≡ Some payment → IsOwner old.owners payment.ksn.iksn t) → AllPairs AreOfDifferentNumbers sales
  once_told t sales None takes asked owned = subst (AllPairs AreOfDifferentNumbers) (sym takes) holds.once
  once_told t sales (Some payment) (inl there) asked owned = subst (AllPairs AreOfDifferentNumbers) (sym there.1) holds.once
  once_told t sales (Some payment) (inr joins) asked owned =
      subst (AllPairs AreOfDifferentNumbers) (sym joins.1) (all_pairs_push AreOfDifferentNumbers old.sales (sale_of t payment) holds.once
      (λ k d within same. joins.0 (subst (λ (it : Sale). Contains old.sales it)
      (same_sale t payment (get_or old.sales k d) (Contains-get_or old.sales k d within) (asked payment refl) (owned payment refl) same) (Contains-get_or old.sales k d within))))

  tell_holds : (t : ℕ) (call : Call) (new : BooksOf C B J I) → IsTelling old.answers call → (change : CallsOnly m t call old.tills new.tills) → TakesSale old.sales t (approved_in change.after.state) new.sales
      → Holds m (record old { tills = new.tills; sales = new.sales })
  tell_holds t call new telling change takes =
      let after = with_sales Before new.sales in
      let now : TillHolds m after t change.after =
      tells laws.calls m t Before new.sales call change.before change.after telling (holds.tills t change.before (before_at t _ old.tills new.tills change)) takes change.changed in (
        begun,
        record {
          once = once_told t new.sales (approved_in change.after.state) takes (λ payment approved. (now.book.runs (Some (Approved payment.ksn payment.amount)) (approved_of change.after.state payment approved)).1.awaited.asked) (λ payment approved. (now.book.runs (Some (Approved payment.ksn payment.amount)) (approved_of change.after.state payment approved)).1.awaited.owned);
          one_owner = holds.one_owner;
          begun_owned = holds.begun_owned;
          asked = holds.asked;
          one_amount = holds.one_amount;
          called_back = holds.called_back;
          sold = λ u ksn amount has. elim (sale_cases t u old.sales new.sales (approved_in change.after.state) (payment_of ksn amount) takes has) [
            | inl before ↦ good_told new.sales u ksn amount (holds.sold u ksn amount before)
            | inr here ↦
                let approved = approved_of change.after.state (payment_of ksn amount) here.1 in
                subst (λ v. IsGood after v ksn amount) here.0 (now.book.runs (Some (Approved ksn amount)) approved).1
          ];
          tills = tills_after m t _ old.tills new.tills Before after change holds.tills (λ u apart. grow_told t u new.sales (approved_in change.after.state) takes apart) now;
          host = holds.host;
        },
      )

  -- ---- the host

  grow_answered : (answer : Frame) (u : ℕ) → GrowBeside u Before (record Before { answers = old.answers ++ answer ∷ [] })
  grow_answered answer u = record {
    owner = λ iksn v is. is;
    begun = λ ksn has is. (has, is);
    begun_stays = λ ksn has. has;
    asked = λ ksn amount is owned. (is, owned);
    asked_stays = λ ksn amount is. is;
    called_back = λ ksn is owned. is;
    replied = λ ksn code is. replied_before old.answers (answer ∷ []) ksn code is;
    undone = λ ksn is. undone_before old.answers (answer ∷ []) ksn is;
    sold = λ ksn amount is. is;
    sold_stays = λ ksn amount is. is;
  }

  answered_all : (frame answer : Frame) (new : BooksOf C B J I) → Contains old.requests frame → AnswersFrames m.host (frame.items ∷ []) old.host new.host (answer.items ∷ [])
      → Holds m (record old { host = new.host; answers = old.answers ++ answer ∷ [] })
  answered_all frame answer new sent is =
      let after : Lists = record Before { answers = old.answers ++ answer ∷ [] } in (
        begun,
        record {
          once = holds.once;
          one_owner = holds.one_owner;
          begun_owned = holds.begun_owned;
          asked = holds.asked;
          one_amount = holds.one_amount;
          called_back = holds.called_back;
          sold = λ u ksn amount sold. good_beside u Before after ksn amount (grow_answered answer u) (holds.sold u ksn amount sold);
          tills = λ u till at. till_beside m u Before after till (grow_answered answer u) (holds.tills u till at);
          host = answered_holds laws.host m.host old.requests old.answers frame sent old.host new.host holds.host answer is;
        },
      )

  with_host : (new : BooksOf C B J I) → HostHolds m.host old.requests old.answers new.host → Holds m (record old { host = new.host })
  with_host new now = (
    begun,
    record {
      once = holds.once;
      one_owner = holds.one_owner;
      begun_owned = holds.begun_owned;
      asked = holds.asked;
      one_amount = holds.one_amount;
      called_back = holds.called_back;
      sold = holds.sold;
      tills = holds.tills;
      host = now;
    },
  )

  -- ---- each move

  pub holds_after : (new : BooksOf C B J I) → Change m old new → Holds m new
  holds_after new (nothing same) = subst (λ books. Holds m books) (sym same) (begun, holds)
  holds_after new (quiet t call is change rest) = subst (λ books. Holds m books) (sym rest) (quiet_holds t call new is change)
  holds_after new (load t iksn outcome is) = subst (λ books. Holds m books) (sym is.rest) (load_holds t iksn outcome new is)
  holds_after new (send t purchase it change rest) = subst (λ books. Holds m books) (sym rest) (send_holds m laws old begun holds t purchase it new change)
  holds_after new (reverse t it sent is_reversal change rest) = subst (λ books. Holds m books) (sym rest) (reverse_holds m laws old begun holds t it sent new is_reversal change)
  holds_after new (tell t call telling change takes rest) = subst (λ books. Holds m books) (sym rest) (tell_holds t call new telling change takes)
  holds_after new (answered frame answer sent is rest) = subst (λ books. Holds m books) (sym rest) (answered_all frame answer new sent is)
  holds_after new (unanswered frame answers why sent is rest) =
      subst (λ books. Holds m books) (sym rest) (with_host new (refused_holds laws.host m.host old.requests old.answers frame sent old.host new.host holds.host answers why is))
  holds_after new (host touches rest) = subst (λ books. Holds m books) (sym rest) (with_host new (touched_holds m old.requests old.answers old.host new.host holds.host touches))
