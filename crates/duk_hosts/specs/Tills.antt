-- A till that pays at many hosts, and what it has told its merchant: this project's own.
--
-- A till sends its frames to any of the hosts, each as often as it likes. What lies between is a network
-- that loses, repeats and reorders frames, and makes none. No order between what happens at the till and
-- at the hosts is asked for.
use Rattle.std.specs.Prelude.{◌≡◌, ◌≢◌, ◌⊎◌, ◌↔◌, ◌≤◌, ◌+◌, if◌then◌else◌, ℕ, Bool, List, [], ◌∷◌, Option, Some, Ok, Err, AllPairs, Contains, flat_map, map, nat_eq, sum_by}
use Rattle.std.specs.List.{filter, list_any}
use Rattle.duk_journal.specs.Groups.{Entries}
use Rattle.duk_journal.specs.Standing.{StandsWith, UseNewNumbers, is_number, standing_total}
use Rattle.duk_journal.specs.declared.entry.Entry as kept
use Rattle.duk_journal_host.specs.declared.candidate.Candidate.{Candidate}
use Rattle.duk_journal_host.specs.declared.candidate.Candidate.TheVariants as candidate
use Rattle.duk_term.specs.declared.answer.Answer.TheVariants as answer
use Rattle.duk_term.specs.declared.answer.ReversalAnswer.TheVariants as reversal
use Rattle.duk_till.specs.History.{Began, Entry, Told, payment_of}
use Rattle.duk_till.specs.Lifetime.{Begin, Call, Reply, Reverse, ReversalReply}
use Rattle.duk_till.specs.declared.fault.TillFault.TheVariants as fault
use Rattle.duk_till.specs.declared.last.Last.{Last}
use Rattle.duk_till.specs.declared.last.Last.TheVariants.{Open, Approved}
use Rattle.duk_till.specs.declared.last.Payment.{Payment}
use Rattle.duk_tree.specs.Serial.{Serial}
use Rattle.duk_hosts.specs.Book.{Book}
use Rattle.duk_hosts.specs.Events.{Event, Hosts, IsHistory, Judged, Judges, all_answers}

-- ---- what goes over the network

-- the frames that a till sends in a call: the request of a purchase, or the reversal of one
abbrev pub sent_by : Call → List (List ℕ)
sent_by (Begin purchase (Ok begun)) = begun.frame.items ∷ []
sent_by (Reverse (Ok begun)) = begun.frame.items ∷ []
sent_by _ = []

abbrev pub all_sent : List Call → List (List ℕ)
all_sent calls = flat_map sent_by calls

-- the frames that it takes in a call: the reply to its purchase, or to its reversal, also where its
-- second cell then does not keep what that says
abbrev pub taken_by : Call → List (List ℕ)
taken_by (Reply bytes (Ok (answer.Done code))) = bytes ∷ []
taken_by (Reply bytes (Err (fault.Store why))) = bytes ∷ []
taken_by (ReversalReply bytes (Ok (reversal.Done found))) = bytes ∷ []
taken_by (ReversalReply bytes (Err (fault.Store why))) = bytes ∷ []
taken_by _ = []

abbrev pub all_taken : List Call → List (List ℕ)
all_taken calls = flat_map taken_by calls

-- the number that a candidate uses
abbrev pub number_of_candidate : Candidate → Serial
number_of_candidate (candidate.Payment purchase code) = purchase.number
number_of_candidate (candidate.Reversal reversal) = reversal.numbers.ksn

-- each frame under this initial key serial number that hosts judged to be authentic was sent in these
-- calls of a till: nobody else has its keys
abbrev pub WereSentIn : List Call → ℕ → List Event → Type 0
WereSentIn calls iksn events =
    (judged : Judged) → Contains events (Judges judged)
    → (number_of_candidate judged.candidate).iksn ≡ iksn
    → Contains (all_sent calls) judged.ask.frame

-- each frame that the till took in these calls is an answer that some host gave: nobody else has the
-- keys of the hosts
abbrev pub WereGivenIn : List Event → List Call → Type 0
WereGivenIn events calls =
    (frame : List ℕ) → Contains (all_taken calls) frame → Contains (all_answers events) frame

-- none of these entries is under this initial key serial number
abbrev pub HaveNoneUnder : ℕ → Entries → Type 0
HaveNoneUnder iksn entries =
    (entry : kept.Entry) → Contains entries entry → entry.number.iksn ≢ iksn

-- a till pays, under this initial key serial number and in these calls, at hosts among which these
-- events happened, over a book that has nothing under it at first
pub record PaysAt
    (hosts : Hosts) (book : Book) (events : List Event) (iksn : ℕ) (calls : List Call) : Type 0 where
  pub happened : IsHistory hosts book events
  pub numbers : UseNewNumbers book.first
  pub new_book : HaveNoneUnder iksn book.first
  pub sent : WereSentIn calls iksn events
  pub given : WereGivenIn events calls

-- ---- what the merchant was told

-- one of these payments has this number
abbrev pub has_number : List Payment → Serial → Bool
has_number sold number = list_any (is_number number) (map (λ payment. payment.ksn) sold)

-- a payment is entered before these, unless one of them has its number
abbrev pub entered : Payment → List Payment → List Payment
entered payment sold = if has_number sold payment.ksn then sold else payment ∷ sold

-- what was told is entered where it is an approved payment
abbrev pub with_told : Last → List Payment → List Payment
with_told (Approved ksn amount) sold = entered (payment_of ksn amount) sold
with_told _ sold = sold

-- the payments that a till told its merchant as approved, each once however often that was told, the
-- newest first
abbrev pub sold_in : List Entry → List Payment
sold_in [] = []
sold_in (Told last ∷ earlier) = with_told last (sold_in earlier)
sold_in (Began began ∷ earlier) = sold_in earlier

-- a payment is under this initial key serial number
abbrev pub is_under : ℕ → Payment → Bool
is_under iksn payment = nat_eq payment.ksn.iksn iksn

-- what those under it come to
abbrev pub sold_total : List Entry → ℕ → ℕ
sold_total history iksn =
    sum_by (λ payment. payment.amount) (filter (is_under iksn) (sold_in history))

-- ---- that merchant and hosts agree

-- under this initial key serial number, whatever the merchant was told as approved stands among these
-- entries, with its amount
abbrev pub ToldStand : List Entry → ℕ → Entries → Type 0
ToldStand history iksn entries =
    (payment : Payment) → payment.ksn.iksn ≡ iksn → Contains (sold_in history) payment
    → StandsWith entries payment.ksn payment.amount

-- whatever stands was told, with its amount, or is the purchase that is open
abbrev pub StandingAreTold : List Entry → ℕ → Option Last → Entries → Type 0
StandingAreTold history iksn last entries =
    (payment : Payment) → payment.ksn.iksn ≡ iksn
    → StandsWith entries payment.ksn payment.amount
    → Contains (sold_in history) payment ⊎ (last ≡ Some (Open payment.ksn payment.amount))

-- what stands is what was told
abbrev pub AgreeOn : List Entry → ℕ → Entries → Type 0
AgreeOn history iksn entries =
    (payment : Payment) → payment.ksn.iksn ≡ iksn
    → StandsWith entries payment.ksn payment.amount ↔ Contains (sold_in history) payment

-- two payments have different numbers
abbrev pub HaveDifferentNumbers : Payment → Payment → Type 0
HaveDifferentNumbers one other = one.ksn ≢ other.ksn

-- this total is that one and the amount of the purchase that is open under this initial key serial
-- number
pub record IsMoreByOpen (iksn : ℕ) (last : Option Last) (total told : ℕ) : Type 0 where
  pub ksn : Serial
  pub amount : ℕ
  pub is_open : last ≡ Some (Open ksn amount)
  pub own : ksn.iksn ≡ iksn
  pub more : total ≡ told + amount

-- of a till in whatever state: each number was told as approved once, all that was told stands, and
-- the total that stands is no less than the total that was told
pub record StandsAsTold (history : List Entry) (iksn : ℕ) (entries : Entries) : Type 0 where
  pub once : AllPairs HaveDifferentNumbers (sold_in history)
  pub told_stand : ToldStand history iksn entries
  pub no_less : sold_total history iksn ≤ standing_total entries iksn

-- of a till that runs with this last purchase: all that stands was told, or is the purchase that is
-- open; and the totals are equal, or differ by the amount of that
pub record AgreesButOpen (history : List Entry) (iksn : ℕ) (last : Option Last) (entries : Entries)
    : Type 0 where
  pub standing_told : StandingAreTold history iksn last entries
  pub totals : (standing_total entries iksn ≡ sold_total history iksn)
      ⊎ IsMoreByOpen iksn last (standing_total entries iksn) (sold_total history iksn)

-- of a till at rest: the payments that stand are those that were told, and so are the totals
pub record Agrees (history : List Entry) (iksn : ℕ) (entries : Entries) : Type 0 where
  pub payments : AgreeOn history iksn entries
  pub totals : standing_total entries iksn ≡ sold_total history iksn
