-- A payment comes through.
use Rattle.std.proofs.Common.{◌≡◌, ◌≢◌, ◌+◌, ◌-◌, ◌<◌, ◌++◌, ◌∷◌, [], ℕ, List, true, Some, Contains, length, inl, inr, refl, sym, ap, subst, ◌∙◌}
use Rattle.duk_frame.specs.Answer.{IsReply}
use Rattle.duk_frame.specs.Payment.{payment_reply, reply_mac, request_of}
use Rattle.duk_frame.specs.Request.{IsRequest}
use Rattle.duk_frame.specs.declared.code.Code.{Code}
use Rattle.duk_frame.specs.declared.code.Code.TheVariants as code_of
use Rattle.duk_frame.specs.declared.request.Request.{Request}
use Rattle.duk_host.specs.Judgement.{IsAuthentic, IsCodeOf}
use Rattle.duk_hsm.specs.Commands.{IsTransactionKey}
use Rattle.duk_journal.specs.Groups.{Entries}
use Rattle.duk_journal.specs.Standing.{payment_entry, used_by}
use Rattle.duk_journal_host.specs.Host.{HostOf, JudgesBy, basis_of}
use Rattle.duk_journal_host.specs.Judgement.{room_for_payments}
use Rattle.duk_pin.specs.PinBlock.{IsPinBlock, pin_block}
use Rattle.duk_tdes.specs.Tdes.{tdes_encrypted}
use Rattle.duk_term.specs.Begin.{IsBegun, pending_of}
use Rattle.duk_term.specs.Terminal.{serial_of}
use Rattle.duk_term.specs.declared.purchase.Purchase.{Purchase}
use Rattle.duk_term.specs.declared.state.Pending.{Pending}
use Rattle.duk_till.specs.History.{payment_of}
use Rattle.duk_till.specs.Last.{outcome_of}
use Rattle.duk_till.specs.Till.{IsAtRest, IsOpen, TillOf, approved_in}
use Rattle.duk_till.specs.declared.last.Last.TheVariants.{Open}
use Rattle.duk_till.specs.declared.state.TillState.{TillState}
use Rattle.duk_till.specs.declared.state.TillState.TheVariants.{Running}
use Rattle.duk_tree.specs.Serial.{Serial}
use Rattle.duk_books.specs.Begin.{Begins}
use Rattle.duk_books.specs.Books.{BooksOf, Frame, Meanings}
use Rattle.duk_stations.specs.Places.{IsAt}
use Rattle.duk_books.specs.Calm.{IsCalmAt, ReportsArming}
use Rattle.duk_books.specs.NoUsedKey.{OwnsAboveUsed}
use Rattle.duk_books.specs.Reached.{Reached}
use Rattle.duk_books.specs.Sales.{TakesSale, sale_of}
use Rattle.duk_books.specs.Step.{Step}
use Rattle.duk_books.specs.Up.{SaysAnswer}
use Rattle.duk_books.specs.WayIn.{HasWayIn, IsOverAt, IsPaymentRun, IssuerSays, KeepsPayment, OthersStay, sales_with, told_with}
use Rattle.duk_books.specs.WayOut.{ReportsNoWear}
use Rattle.duk_books.specs.declared.event.End.{End}
use Rattle.duk_books.specs.declared.event.End.TheVariants as ends
use Rattle.duk_books.specs.declared.event.Event.TheVariants as event
use Rattle.duk_books.specs.declared.outcome.Outcome.{Outcome}
use Rattle.duk_books.specs.declared.outcome.Outcome.TheVariants as came
use Rattle.duk_books.specs.declared.sales.Sale.{Sale}
use Rattle.duk_books.proofs.accepted.EndsOnce.{reached_hold}
use Rattle.duk_books.proofs.accepted.RepliedBefore.{AnswerLaws}
use Rattle.duk_books.proofs.agreement.Tills.{stopped_is_not_running}
use Rattle.duk_books.proofs.calm_stores.CalmStores.{reached_facts}
use Rattle.duk_books.proofs.calm_stores.KnownStores.{StoreLaws}
use Rattle.duk_books.proofs.moves.ReachedByMoves.{reached_step}
use Rattle.duk_stations.proofs.OwnKey.{own_transaction_key, pin_found}
use Rattle.duk_books.proofs.numbers.OwnKey.{OwnKeyLaws, of_above}
use Rattle.duk_books.proofs.way_in.HostPays.{IsSaid, PaysFor, is_said, one_key, pays_for, says_accepted}
use Rattle.duk_books.proofs.way_in.Running.{CellsRun, reached_runs}
use Rattle.duk_books.proofs.way_in.TillBegins.{HasNext, SendsRequest, has_next, sends_request}
use Rattle.duk_books.proofs.way_in.TillIsTold.{IsDone, is_done, others_stay}
use Rattle.duk_books.proofs.way_out.NewNumber.{above, next_is_new, not_replied, not_sold}
use Rattle.duk_books.proofs.way_out.RunsFirst.{run_ends, runs_first}
use Rattle.duk_books.proofs.way_out.TillReverses.{stopped_not_loaded}
use Rattle.duk_books.proofs.way_out.Ups.{now_at, some_is}
use Rattle.duk_books.proofs.way_out.WayOut.{next_at, reaches_unarmed}

-- what is known of stores, of keys and of how frames are read
pub record WayInLaws {C B J I : Type 0} (m : Meanings C B J I) : Type 0 where
  pub stores : StoreLaws m
  pub answers : AnswerLaws
  pub keys : OwnKeyLaws m
  pub one_pin : (pin other pan block : List ℕ) → IsPinBlock pin pan block → IsPinBlock other pan block → pin ≡ other

begins_unarmed : {C B J I : Type 0} (m : Meanings C B J I) (old : BooksOf C B J I) (t : ℕ) (purchase : Purchase) (outcome : Outcome) (new : BooksOf C B J I) (end : End) → Begins m old t purchase outcome new → ¬ ReportsArming end outcome
begins_unarmed m old t purchase (came.Armed armed steps) new end is reports = is
begins_unarmed m old t purchase _ new end is reports = reports

-- ---- what is sold, and how it ends

sales_are : (sales new : List Sale) (t : ℕ) (ksn : Serial) (amount : ℕ) (code : Code) (state : TillState) → state ≡ Running (Some (outcome_of ksn amount code)) → ¬ Contains sales (sale_of t (payment_of ksn amount))
    → TakesSale sales t (approved_in state) new → new ≡ sales_with sales t (payment_of ksn amount) code
sales_are sales new t ksn amount code_of.Approved state is unsold takes = elim (subst (λ (it : TillState). TakesSale sales t (approved_in it) new) is takes) [
  | inl there ↦ absurd (unsold there.0)
  | inr entered ↦ entered.1
]
sales_are sales new t ksn amount code_of.NoCard state is unsold takes = subst (λ (it : TillState). TakesSale sales t (approved_in it) new) is takes
sales_are sales new t ksn amount code_of.WrongPin state is unsold takes = subst (λ (it : TillState). TakesSale sales t (approved_in it) new) is takes
sales_are sales new t ksn amount code_of.OverLimit state is unsold takes = subst (λ (it : TillState). TakesSale sales t (approved_in it) new) is takes
sales_are sales new t ksn amount code_of.Unreadable state is unsold takes = subst (λ (it : TillState). TakesSale sales t (approved_in it) new) is takes

not_open : (ksn other : Serial) (amount more : ℕ) (code : Code) → Some (outcome_of ksn amount code) ≢ Some (Open other more)
not_open ksn other amount more code_of.Approved same = cc
not_open ksn other amount more code_of.NoCard same = cc
not_open ksn other amount more code_of.WrongPin same = cc
not_open ksn other amount more code_of.OverLimit same = cc
not_open ksn other amount more code_of.Unreadable same = cc

rests_with : (state : TillState) (ksn : Serial) (amount : ℕ) (code : Code) → state ≡ Running (Some (outcome_of ksn amount code)) → IsAtRest state
rests_with state ksn amount code is = record { last = Some (outcome_of ksn amount code); runs = is; closed = λ other more. not_open ksn other amount more code }

three_are : (a b c d e f : Outcome) → a ≡ d → b ≡ e → c ≡ f → a ∷ b ∷ c ∷ [] ≡ d ∷ e ∷ f ∷ []
three_are a b c d e f one two three = cc

three_outcomes : (outcomes after_one after_two after_three : List Outcome) (a b c : Outcome) → outcomes ≡ a ∷ after_one → after_one ≡ b ∷ after_two → after_two ≡ c ∷ after_three → after_three ≡ [] → outcomes ≡ a ∷ b ∷ c ∷ []
three_outcomes outcomes after_one after_two after_three a b c one two three none = cc

-- how a payment ends
pub record ComesThrough {C B J I : Type 0} (m : Meanings C B J I) (old new : BooksOf C B J I) (t : ℕ) (purchase : Purchase) (ksn : Serial) (code : Code) (outcomes : List Outcome) : Type 0 where
  pub told : outcomes ≡ told_with old t ksn code
  pub over : IsOverAt new.tills t ksn purchase.amount code
  pub kept : KeepsPayment m old new ksn purchase.amount code
  pub sold : new.sales ≡ sales_with old.sales t (payment_of ksn purchase.amount) code
  pub others : OthersStay old.tills t new.tills

module _ {C B J I : Type 0} (m : Meanings C B J I) (laws : WayInLaws m) (old : BooksOf C B J I) (t : ℕ) (purchase : Purchase) (ksn : Serial) (code : Code) (reached : Reached m old) (way : HasWayIn m old t ksn) (says : IssuerSays m.host old.host purchase code)
    (sent replied new : BooksOf C B J I) (first second third : Outcome)
    (begin : Step m old (event.Begin t purchase) first sent) (reach : Step m sent (event.Up (length old.requests + 1)) second replied) (deliver : Step m replied (event.Down (length old.answers + 1) t) third new)
    (first_unworn : ReportsNoWear first) (third_unworn : ReportsNoWear third) where
  abbrev till : TillOf C B
  till = way.begins.till

  -- ---- the till and the host run

  nx : HasNext till.terminal.state ksn
  nx = has_next till.terminal.state ksn way.begins.next_is

  runs : CellsRun m.cell m.book till
  runs = reached_runs m old reached t till way.begins.at

  cell_runs : (m.cell.state_of till.terminal.cell).running ≡ true
  cell_runs = elim runs.of_terminal [
    | inl stopped ↦ absurd (stopped_not_loaded till.terminal.state nx.set nx.pending nx.state_is stopped)
    | inr running ↦ running
  ]

  book_runs : (m.book.state_of till.book).running ≡ true
  book_runs = elim runs.of_book [
    | inl stopped ↦ absurd (stopped_is_not_running till.state way.begins.rest.last stopped way.begins.rest.runs)
    | inr running ↦ running
  ]

  judged : (entries : Entries) × JudgesBy m.host old.host entries
  judged = elim (reached_hold m laws.stores.books old reached).holds.1.host.runs [
    | inl stopped ↦ absurd (way.host_runs stopped)
    | inr is ↦ is
  ]

  abbrev entries : Entries
  entries = judged.0

  room : 0 < room_for_payments (basis_of m.host old.host entries).capacity (basis_of m.host old.host entries).room
  room =
      let honest = (reached_hold m laws.stores.books old reached).holds.1.host.honest in
      let capacity = m.host.journal.capacity old.host.journal in
      subst (λ n. 0 < room_for_payments capacity (capacity - n)) judged.1.kept.counted (way.room entries ((judged.1.kept.finds honest entries).1 refl))

  -- ---- the request is sent

  sent_reached : Reached m sent
  sent_reached = reached_step m old sent (event.Begin t purchase) first reached begin

  replied_reached : Reached m replied
  replied_reached = reached_step m sent replied (event.Up (length old.requests + 1)) second sent_reached reach

  first_calm : (end : End) → IsCalmAt m old end → IsCalmAt m sent end
  first_calm end calm = (reached_facts m laws.stores old (event.Begin t purchase) first sent reached begin).calm end calm (begins_unarmed m old t purchase first sent end begin)

  second_calm : (end : End) → IsCalmAt m old end → IsCalmAt m replied end
  second_calm end calm =
      (reached_facts m laws.stores sent (event.Up (length old.requests + 1)) second replied sent_reached reach).calm end (first_calm end calm) (reaches_unarmed m sent (length old.requests + 1) second replied end reach)

  it_sends : SendsRequest m old t till purchase ksn first sent
  it_sends =
      let facts = reached_facts m laws.stores old (event.Begin t purchase) first sent reached begin in
      sends_request m till purchase ksn way.begins.rest way.begins.next_is way.begins.two_more cell_runs book_runs old sent t way.begins.at first begin
      (record { device = facts.device (ends.Terminal t) way.calm.of_terminal; worn = first_unworn (ends.Terminal t) })
      (record { device = facts.device (ends.Book t) way.calm.of_book; worn = first_unworn (ends.Book t) })

  abbrev frame : Frame
  frame = it_sends.sent.begun.frame

  abbrev after : TillOf C B
  after = it_sends.sent.till.after

  abbrev begun : IsBegun m.cell purchase till.terminal after.terminal frame.items
  begun = it_sends.begun.terminal.begun

  abbrev serial : Serial
  serial = serial_of begun.set

  abbrev request : Request
  request = request_of begun.key serial purchase.pan purchase.pin purchase.amount

  is_request : IsRequest frame.items request
  is_request = laws.stores.books.request purchase till.terminal after.terminal frame.items begun

  same_host : sent.host ≡ old.host
  same_host = ap (λ (books : BooksOf C B J I). books.host) it_sends.sent.rest

  same_answers : sent.answers ≡ old.answers
  same_answers = ap (λ (books : BooksOf C B J I). books.answers) it_sends.sent.rest

  same_sales : sent.sales ≡ old.sales
  same_sales = ap (λ (books : BooksOf C B J I). books.sales) it_sends.sent.rest

  frame_at : IsAt sent.requests (length old.requests + 1) frame
  frame_at = next_at old.requests sent.requests frame (ap (λ (books : BooksOf C B J I). books.requests) it_sends.sent.rest)

  -- ---- its number is new, and its key the one that the host has for it

  is_above : OwnsAboveUsed old.host.keys old.requests old.owners t begun.set
  is_above = above m laws.stores laws.keys.future_keys old reached t till way.begins.at begun.set begun.left begun.key begun.takes.pending begun.takes.had begun.takes.takes

  is_new : ¬ Contains (used_by entries) serial
  is_new = next_is_new m laws.stores laws.keys.future_keys old reached t till way.begins.at begun.set begun.left begun.key begun.takes.pending begun.takes.had begun.takes.takes entries judged.1

  key_is : IsTransactionKey old.host.keys serial begun.key
  key_is = own_transaction_key m.cell laws.keys.keys old.host.keys begun.set begun.left begun.key begun.takes.takes is_request.fields.ksn_is (of_above m laws.keys old.host.keys old.requests begun.set is_above.above)

  authentic : IsAuthentic old.host.keys request
  authentic = record { key = begun.key; key_is = key_is; mac_is = refl }

  -- ---- the host accepts it, with the issuer's code

  pays : PaysFor m sent entries request second replied
  pays =
      pays_for m laws.stores.books.frames sent replied (length old.requests + 1) frame frame_at entries (subst (λ host. JudgesBy m.host host entries) (sym same_host) judged.1) request is_request
      (subst (λ (host : HostOf J I). IsAuthentic host.keys request) (sym same_host) authentic) is_new
      (subst (λ (host : HostOf J I). 0 < room_for_payments (basis_of m.host host entries).capacity (basis_of m.host host entries).room) (sym same_host) room) second reach
      ((reached_facts m laws.stores sent (event.Up (length old.requests + 1)) second replied sent_reached reach).device ends.Host (first_calm ends.Host way.calm.of_host))

  said : IsSaid old.host.keys (m.host.decides old.host.issuer) request purchase.pin pays.code
  said =
      is_said laws.one_pin old.host.keys (m.host.decides old.host.issuer) request begun.key purchase.pin key_is
      (pin_found m.cell laws.keys.keys old.host.keys purchase till.terminal after.terminal frame.items begun (of_above m laws.keys old.host.keys old.requests begun.set is_above.above)) pays.code
      (subst (λ (host : HostOf J I). IsCodeOf host.keys (m.host.decides host.issuer) request pays.code) same_host pays.code_is)

  same_code : pays.code ≡ code
  same_code =
      said.code_is
      ∙ ap (λ (zone : List ℕ). m.host.decides old.host.issuer purchase.pan purchase.amount (tdes_encrypted zone (pin_block purchase.pin purchase.pan))) (some_is said.zone says.zone (sym said.zone_is ∙ says.zone_is))
      ∙ sym says.code_is

  reply_key : begun.key ≡ pays.reply.key
  reply_key = one_key old.host.keys serial begun.key pays.reply.key key_is (subst (λ (host : HostOf J I). IsTransactionKey host.keys serial pays.reply.key) same_host pays.reply.key_is)

  frame_is : pays.answer.items ≡ payment_reply begun.key serial pays.code
  frame_is = pays.reply.frame_is ∙ ap (λ (key : List ℕ). payment_reply key serial pays.code) (sym reply_key)

  is_reply : IsReply pays.answer.items serial pays.code (reply_mac begun.key serial pays.code)
  is_reply =
      subst (λ bytes. IsReply bytes serial pays.code (reply_mac begun.key serial pays.code)) (sym frame_is) (laws.stores.books.host.replied begun.key serial pays.code is_request.fields.ksn_is)

  not_before : ¬ Contains old.answers pays.answer
  not_before has =
      not_replied m laws.stores laws.keys.future_keys old reached t till way.begins.at begun.set begun.left begun.key begun.takes.pending begun.takes.had begun.takes.takes entries judged.1 pays.code
      (record { frame = pays.answer; mac = reply_mac begun.key serial pays.code; sent = has; reply = is_reply })

  accepted : second ≡ came.Accepted (length old.answers + 1) serial pays.code
  accepted =
      says_accepted laws.answers old.answers pays.answer serial pays.code (reply_mac begun.key serial pays.code) is_reply not_before second
      (subst (λ (list : List Frame). SaysAnswer list pays.answer second) same_answers pays.says)

  -- ---- the till is told it

  abbrev pending : Pending
  pending = pending_of begun.set begun.key

  is_open : IsOpen after.state serial purchase.amount
  is_open = it_sends.begun.state_is ∙ ap (λ (it : Serial). Running (Some (Open it purchase.amount))) it_sends.begun.terminal.ksn_is

  after_at : IsAt replied.tills t after
  after_at = subst (λ tills. IsAt tills t after) (sym pays.tills) (now_at t _ old.tills sent.tills it_sends.sent.till)

  answer_at : IsAt replied.answers (length old.answers + 1) pays.answer
  answer_at = next_at old.answers replied.answers pays.answer (pays.answers ∙ ap (λ (list : List Frame). list ++ pays.answer ∷ []) same_answers)

  done : IsDone replied t serial purchase.amount pays.code third new
  done =
      is_done m laws.answers after serial purchase.amount is_open begun.left pending begun.state_is refl it_sends.begun.kept.settles.runs
      pays.answer pays.code (reply_mac begun.key serial pays.code) is_reply frame_is
      replied new (length old.answers + 1) t after_at answer_at third deliver (record {
        device = (reached_facts m laws.stores replied (event.Down (length old.answers + 1) t) third new replied_reached deliver).device (ends.Book t) (second_calm (ends.Book t) way.calm.of_book);
        worn = third_unworn (ends.Book t);
      })

  -- ---- so it comes through

  done_state : done.till.state ≡ Running (Some (outcome_of ksn purchase.amount code))
  done_state =
      done.state_is
      ∙ ap (λ (it : Serial). Running (Some (outcome_of it purchase.amount pays.code))) it_sends.serial
      ∙ ap (λ (it : Code). Running (Some (outcome_of ksn purchase.amount it))) same_code

  unsold : ¬ Contains old.sales (sale_of t (payment_of ksn purchase.amount))
  unsold sold =
      not_sold m laws.stores laws.keys.future_keys old reached t till way.begins.at begun.set begun.left begun.key begun.takes.pending begun.takes.had begun.takes.takes t purchase.amount
      (subst (λ (it : Serial). Contains old.sales (sale_of t (payment_of it purchase.amount))) (sym it_sends.serial) sold)

  pub comes_through : ComesThrough m old new t purchase ksn code (first ∷ second ∷ third ∷ [])
  comes_through = record {
    told = three_are first second third _ _ _ it_sends.outcome_is
        (accepted ∙ ap (λ (it : Serial). came.Accepted (length old.answers + 1) it pays.code) it_sends.serial ∙ ap (λ (it : Code). came.Accepted (length old.answers + 1) ksn it) same_code)
        (done.outcome_is ∙ ap (λ (it : Serial). came.Done t it pays.code) it_sends.serial ∙ ap (λ (it : Code). came.Done t ksn it) same_code);
    over = record { till = done.till; at = done.at; state_is = done_state; rest = rests_with done.till.state ksn purchase.amount code done_state };
    kept = record {
      entries = entries;
      mac = request.mac;
      before = judged.1;
      after = subst (λ (host : HostOf J I). JudgesBy m.host host (entries ++ payment_entry ksn purchase.amount code request.mac ∷ [])) (sym done.host)
          (subst (λ (it : Code). JudgesBy m.host replied.host (entries ++ payment_entry ksn purchase.amount it request.mac ∷ [])) same_code
          (subst (λ (it : Serial). JudgesBy m.host replied.host (entries ++ payment_entry it purchase.amount pays.code request.mac ∷ [])) it_sends.serial pays.judges));
    };
    sold = sales_are old.sales new.sales t ksn purchase.amount code done.till.state done_state unsold
        (subst (λ (list : List Sale). TakesSale list t (approved_in done.till.state) new.sales) (pays.sales ∙ same_sales) done.sales);
    others = λ u other apart at.
        done.others u other apart (subst (λ tills. IsAt tills u other) (sym pays.tills) (others_stay t _ old.tills sent.tills it_sends.sent.till u other apart at));
  }

same_end : {C B J I : Type 0} (m : Meanings C B J I) (old mid new : BooksOf C B J I) (t : ℕ) (purchase : Purchase) (ksn : Serial) (code : Code) (outcomes : List Outcome) → new ≡ mid → ComesThrough m old mid t purchase ksn code outcomes
    → ComesThrough m old new t purchase ksn code outcomes
same_end {C} {B} {J} {I} m old mid new t purchase ksn code outcomes same is = subst (λ (it : BooksOf C B J I). ComesThrough m old it t purchase ksn code outcomes) (sym same) is

with_outcomes : {C B J I : Type 0} (m : Meanings C B J I) (old new : BooksOf C B J I) (t : ℕ) (purchase : Purchase) (ksn : Serial) (code : Code) (outcomes others : List Outcome) → outcomes ≡ others → ComesThrough m old new t purchase ksn code others
    → ComesThrough m old new t purchase ksn code outcomes
with_outcomes {C} {B} {J} {I} m old new t purchase ksn code outcomes others same is = subst (λ (it : List Outcome). ComesThrough m old new t purchase ksn code it) (sym same) is

pub way_in : {C B J I : Type 0} (m : Meanings C B J I) → WayInLaws m → (old new : BooksOf C B J I) (t : ℕ) (purchase : Purchase) (ksn : Serial) (code : Code) (outcomes : List Outcome) → IsPaymentRun m old t purchase ksn code outcomes new
    → ComesThrough m old new t purchase ksn code outcomes
way_in {C} {B} {J} {I} m laws old new t purchase ksn code outcomes is =
    let up = event.Up (length old.requests + 1) in
    let down = event.Down (length old.answers + 1) t in
    let a = runs_first m old new (event.Begin t purchase) (up ∷ down ∷ []) outcomes is.run is.unworn in
    let b = runs_first m a.mid new up (down ∷ []) a.others a.rest a.all_unworn in
    let c = runs_first m b.mid new down [] b.others b.rest b.all_unworn in
    let last = run_ends m c.mid new c.others c.rest in
    with_outcomes m old new t purchase ksn code outcomes (a.outcome ∷ b.outcome ∷ c.outcome ∷ [])
    (three_outcomes outcomes a.others b.others c.others a.outcome b.outcome c.outcome a.outcomes_are b.outcomes_are c.outcomes_are last.1)
    (same_end m old c.mid new t purchase ksn code (a.outcome ∷ b.outcome ∷ c.outcome ∷ []) last.0
    (comes_through m laws old t purchase ksn code is.reached is.way is.says a.mid b.mid c.mid a.outcome b.outcome c.outcome a.step b.step c.step a.unworn c.unworn))
