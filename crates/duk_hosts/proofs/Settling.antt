-- What a candidate is settled to be, by whatever book, as a journal of some capacity would.
use Rattle.std.proofs.Common.{◌≡◌, ◌<◌, ◌-◌, ℕ, List, Contains, Option, Some, length, drop, take, refl, sym, ap, subst, ◌∙◌}
use Rattle.std.proofs.lemmas.List.{take-append-drop}
use Rattle.std.proofs.lemmas.List.Elements.{Contains-append_right}
use Rattle.duk_frame.specs.declared.code.Code.{Code}
use Rattle.duk_frame.specs.Payment.{payment_reply}
use Rattle.duk_host.specs.Judgement.{IsReplyWith}
use Rattle.duk_hsm.specs.Commands.{HasTransactionKey, IsTransactionKey}
use Rattle.duk_hsm.specs.Keys.{HsmKeys, key_set_of}
use Rattle.duk_journal.specs.Groups.{Entries}
use Rattle.duk_journal.specs.Standing.{payment_entry}
use Rattle.duk_journal.specs.declared.entry.Entry.{Entry}
use Rattle.duk_reversal.specs.Authentic.{reversal_reply_under}
use Rattle.duk_reversal.specs.Numbers.{Numbers}
use Rattle.duk_reversal.specs.declared.state.ReversalState.{ReversalState}
use Rattle.duk_tree.specs.Derivation.{derived_key_of, response_key_of}
use Rattle.duk_tree.specs.Serial.{Serial, prefix_of}
use Rattle.duk_journal_host.specs.Judgement.{FindsState, IsReversalReplyWith, reversal_entry, room_for_payments}
use Rattle.duk_journal_host.specs.Latest.{latest_entries, most_latest}
use Rattle.duk_journal_host.specs.Steps.{IsAnswerBy, IsAnswerOf, IsAsked, IsPurchase, IsPurchaseKnown, IsReversalAsked, IsReversalKnown, IsSettledBy, IsSettlement}
use Rattle.duk_journal_host.specs.declared.authentic.Purchase.{Purchase}
use Rattle.duk_journal_host.specs.declared.settlement.Settled.{Settled}
use Rattle.duk_journal_host.specs.declared.settlement.Settled.TheVariants as settled
use Rattle.duk_journal_host.specs.declared.settlement.Settlement.{Settlement}
use Rattle.duk_journal_host.specs.declared.settlement.Settlement.TheVariants.{Full, Kept, KnownAgain, Used}
use Rattle.duk_journal_host.specs.declared.candidate.Candidate.{Candidate}
use Rattle.duk_journal_host.specs.declared.candidate.Candidate.TheVariants as sent
use Rattle.duk_hosts.specs.Book.{AtMost, Bound, IsSettledIn, IsSettledOver, KnowsPurchase, KnowsReversal, NoBound, answerable, capacity_of, room_of}
use Rattle.duk_hosts.specs.Events.{Ask, Hosts, IsCandidateOf}

-- ---- what was settled was asked

pub asked_of : (hosts : Hosts) (bound : Bound) (entries : Entries) (ask : Ask) (candidate : Candidate) (done : Settled) → IsCandidateOf hosts ask candidate → IsSettledIn bound entries candidate done → IsAsked hosts.keys ask.frame done
asked_of hosts bound entries ask (sent.Payment purchase code) (settled.Payment same settlement) is settles =
    subst (λ purchase. IsPurchase hosts.keys ask.frame purchase) (sym settles.0) is.0
asked_of hosts bound entries ask (sent.Payment purchase code) (settled.Reversal same settlement) is settles = absurd settles.0
asked_of hosts bound entries ask (sent.Reversal reversal) (settled.Payment same settlement) is settles = absurd settles.0
asked_of hosts bound entries ask (sent.Reversal reversal) (settled.Reversal same settlement) is settles =
    subst (λ reversal. IsReversalAsked hosts.keys ask.frame reversal) (sym settles.0) is

-- ---- it has one answer

payment_answer : (keys : HsmKeys) (number : Serial) (key : List ℕ) (settlement : Settlement Code) → IsTransactionKey keys number key → (frame : List ℕ) × IsAnswerBy number (IsReplyWith keys number) settlement frame
payment_answer keys number key (Kept code) is = (payment_reply key number code, record { key = key; key_is = is; frame_is = refl })
payment_answer keys number key (KnownAgain code) is = (payment_reply key number code, record { key = key; key_is = is; frame_is = refl })
payment_answer keys number key Used is = (_, refl)
payment_answer keys number key Full is = (_, refl)

reversal_answer : (keys : HsmKeys) (numbers : Numbers) (key : List ℕ) (settlement : Settlement ReversalState) → IsTransactionKey keys numbers.ksn key
    → (frame : List ℕ) × IsAnswerBy numbers.ksn (IsReversalReplyWith keys numbers) settlement frame
reversal_answer keys numbers key (Kept state) is = (reversal_reply_under (response_key_of key) numbers state, record { key = key; key_is = is; frame_is = refl })
reversal_answer keys numbers key (KnownAgain state) is = (reversal_reply_under (response_key_of key) numbers state, record { key = key; key_is = is; frame_is = refl })
reversal_answer keys numbers key Used is = (_, refl)
reversal_answer keys numbers key Full is = (_, refl)

pub answer_of : (keys : HsmKeys) (bytes : List ℕ) (done : Settled) → IsAsked keys bytes done → (frame : List ℕ) × IsAnswerOf keys done frame
answer_of keys bytes (settled.Payment purchase settlement) is =
    let own = subst (λ (purchase : Purchase). HasTransactionKey keys purchase.number) (sym is.purchase_is) (is.authentic.key, is.authentic.key_is) in
    payment_answer keys purchase.number own.0 settlement own.1
answer_of keys bytes (settled.Reversal reversal settlement) is = reversal_answer keys reversal.numbers is.authentic.key settlement is.authentic.key_is

one_value : {A : Type 0} (found : Option A) (one other : A) → found ≡ Some one → found ≡ Some other → one ≡ other
one_value found one other is same = cc

one_key : (keys : HsmKeys) (ksn : Serial) (key other : List ℕ) → IsTransactionKey keys ksn key → IsTransactionKey keys ksn other → key ≡ other
one_key keys ksn key other one two =
    one.key_is ∙ ap (λ bdk. derived_key_of bdk ksn) (one_value (key_set_of keys (prefix_of ksn)) one.bdk two.bdk one.held two.held) ∙ sym two.key_is

same_reply : (keys : HsmKeys) (ksn : Serial) (code : Code) (one other : List ℕ) → IsReplyWith keys ksn code one → IsReplyWith keys ksn code other → one ≡ other
same_reply keys ksn code one other is also =
    is.frame_is ∙ ap (λ key. payment_reply key ksn code) (one_key keys ksn is.key also.key is.key_is also.key_is) ∙ sym also.frame_is

same_reversal_reply : (keys : HsmKeys) (numbers : Numbers) (state : ReversalState) (one other : List ℕ) → IsReversalReplyWith keys numbers state one → IsReversalReplyWith keys numbers state other → one ≡ other
same_reversal_reply keys numbers state one other is also =
    is.frame_is ∙ ap (λ key. reversal_reply_under (response_key_of key) numbers state) (one_key keys numbers.ksn is.key also.key is.key_is also.key_is) ∙ sym also.frame_is

one_by : {T : Type 0} (number : Serial) (replies : T → List ℕ → Type 0) → ((outcome : T) (one other : List ℕ) → replies outcome one → replies outcome other → one ≡ other)
    → (settlement : Settlement T) (one other : List ℕ) → IsAnswerBy number replies settlement one → IsAnswerBy number replies settlement other → one ≡ other
one_by number replies same (Kept outcome) one other is also = same outcome one other is also
one_by number replies same (KnownAgain outcome) one other is also = same outcome one other is also
one_by number replies same Used one other is also = is ∙ sym also
one_by number replies same Full one other is also = is ∙ sym also

pub one_answer : (keys : HsmKeys) (done : Settled) (one other : List ℕ) → IsAnswerOf keys done one → IsAnswerOf keys done other → one ≡ other
one_answer keys (settled.Payment purchase settlement) one other is also =
    one_by purchase.number (IsReplyWith keys purchase.number) (λ code. same_reply keys purchase.number code) settlement one other is also
one_answer keys (settled.Reversal reversal settlement) one other is also =
    one_by reversal.numbers.ksn (IsReversalReplyWith keys reversal.numbers) (λ state. same_reversal_reply keys reversal.numbers state) settlement one other is also

-- ---- it is settled as a journal settles it

-- a settlement by other room and other knowledge
moved : {T : Type 0} (entries : Entries) (number : Serial) (room more : ℕ) (known other comes : T → Type 0) (settlement : Settlement T) → (room ≡ 0 → more ≡ 0) → (0 < room → 0 < more)
    → ((outcome : T) → settlement ≡ KnownAgain outcome → known outcome → other outcome) → ((outcome : T) → other outcome → known outcome)
    → IsSettlement entries number room known comes settlement → IsSettlement entries number more other comes settlement
moved entries number room more known other comes (KnownAgain outcome) full left again fewer settles = again outcome refl settles
moved entries number room more known other comes Used full left again fewer settles = (λ outcome is. settles.0 outcome (fewer outcome is), settles.1)
moved entries number room more known other comes Full full left again fewer settles = (λ outcome is. settles.0 outcome (fewer outcome is), settles.1, full settles.2)
moved entries number room more known other comes (Kept outcome) full left again fewer settles = (record { new = settles.0.new; room_left = left settles.0.room_left }, settles.1)

-- there is room in a journal where there is room in a book
pub record HasRoom (bound : Bound) (entries : Entries) (capacity room : ℕ) : Type 0 where
  pub full : room_of bound entries ≡ 0 → room ≡ 0
  pub left : 0 < room_of bound entries → 0 < room
  pub full_payments : room_for_payments (capacity_of bound) (room_of bound entries) ≡ 0 → room_for_payments capacity room ≡ 0
  pub left_payments : 0 < room_for_payments (capacity_of bound) (room_of bound entries) → 0 < room_for_payments capacity room

latest_kept : (entries : Entries) (entry : Entry) → Contains (latest_entries entries) entry → Contains entries entry
latest_kept entries entry kept =
    let count = length entries - most_latest in
    subst (λ entries. Contains entries entry) (take-append-drop count entries) (Contains-append_right (take count entries) (drop count entries) entry kept)

-- a book answers again what a journal does
answers_latest : (bound : Bound) (entries : Entries) (entry : Entry) → Contains (latest_entries entries) entry → Contains (answerable bound entries) entry
answers_latest (AtMost capacity) entries entry kept = kept
answers_latest NoBound entries entry kept = latest_kept entries entry kept

pub answers_kept : (bound : Bound) (entries : Entries) (entry : Entry) → Contains (answerable bound entries) entry → Contains entries entry
answers_kept (AtMost capacity) entries entry kept = latest_kept entries entry kept
answers_kept NoBound entries entry kept = kept

-- what is settled, and known again of a journal where it is known again
abbrev pub KnownTooIf : Bound → Entries → Settled → Type 0
KnownTooIf bound entries (settled.Payment purchase settlement) =
    (code : Code) → settlement ≡ KnownAgain code → KnowsPurchase bound entries purchase code → IsPurchaseKnown entries purchase code
KnownTooIf bound entries (settled.Reversal reversal settlement) =
    (state : ReversalState) → settlement ≡ KnownAgain state → KnowsReversal bound entries reversal state → IsReversalKnown entries reversal state

pub settled_by : (bound : Bound) (entries : Entries) (capacity room : ℕ) (is_code : Code → Type 0) (done : Settled) → HasRoom bound entries capacity room → KnownTooIf bound entries done → IsSettledOver bound entries is_code done
    → IsSettledBy entries capacity room is_code done
settled_by bound entries capacity room is_code (settled.Payment purchase settlement) has known settles =
    moved entries purchase.number (room_for_payments (capacity_of bound) (room_of bound entries)) (room_for_payments capacity room)
    (KnowsPurchase bound entries purchase) (IsPurchaseKnown entries purchase) is_code settlement has.full_payments has.left_payments known
    (λ code knows. record { amount = knows.amount; kept = answers_latest bound entries (payment_entry purchase.number knows.amount code purchase.mac) knows.kept; not_undone = knows.not_undone })
    settles
settled_by bound entries capacity room is_code (settled.Reversal reversal settlement) has known settles =
    moved entries reversal.numbers.ksn (room_of bound entries) room (KnowsReversal bound entries reversal) (IsReversalKnown entries reversal) (FindsState entries reversal.numbers.reversed) settlement has.full has.left known
    (λ state knows. answers_latest bound entries (reversal_entry reversal state) knows)
    settles
