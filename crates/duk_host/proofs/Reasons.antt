-- The least reason against a request, by cases: what each says, and that none before it holds.
use Rattle.std.proofs.Common.{◌≡◌, ◌∙◌, Some, None, Option, IsSome, ℕ, List, ap, refl, sym, subst, arith}
use Rattle.std.proofs.lemmas.Bool.{false≢true}
use Rattle.duk_frame.specs.declared.request.Request.{Request}
use Rattle.duk_hsm.specs.Commands.{IsOtherMac, IsRequestMac, IsTransactionKey}
use Rattle.duk_hsm.specs.Keys.{HsmKeys, key_set_of}
use Rattle.duk_io.specs.FirstFault.{AllBefore}
use Rattle.duk_tree.specs.Derivation.{derived_key_of}
use Rattle.duk_tree.specs.Path.{IsUsable}
use Rattle.duk_tree.specs.Serial.{Serial, prefix_of}
use Rattle.duk_host.specs.inner.Judged.{IsReasonAgainstMac}
use Rattle.duk_host.specs.Judgement.{IsAuthentic, IsNoRepeat, IsReasonAgainst, JudgementBasis, Passes, authenticated_text, reason_number}
use Rattle.duk_host.specs.Used.{IsUsed}
use Rattle.duk_host.specs.declared.reason.Reason.{Reason}
use Rattle.duk_host.specs.declared.reason.Reason.TheVariants as reason

-- the number is used, and the request is none of the latest that were accepted
pub record IsUsedAgain (basis : JudgementBasis) (request : Request) : Type 0 where
  pub authentic : IsAuthentic basis.keys request
  pub no_repeat : IsNoRepeat basis request
  pub used : IsUsed basis.used request.ksn

-- the number is not used, the request is none of the latest that were accepted, and there is no room
pub record HasNoRoom (basis : JudgementBasis) (request : Request) : Type 0 where
  pub authentic : IsAuthentic basis.keys request
  pub no_repeat : IsNoRepeat basis request
  pub fresh : ¬ IsUsed basis.used request.ksn
  pub full : basis.room ≡ 0

-- what the least reason against a request says
abbrev pub Case : JudgementBasis → Request → Reason → Type 0
Case basis request reason.Used = IsUsedAgain basis request
Case basis request reason.LogFull = HasNoRoom basis request
Case basis request why = IsReasonAgainstMac basis.keys request why

-- the key set of a key serial number, where one is held
held : {A : Type 0} (found : Option A) → IsSome found → (value : A) × (found ≡ Some value)
held None some = absurd (false≢true some)
held (Some value) some = (value, refl)

is_held : {A : Type 0} (found : Option A) (value : A) → found ≡ Some value → IsSome found
is_held found value is = subst (λ found. IsSome found) (sym is) refl

-- a request with a transaction key that is not authentic has another MAC
other_mac : (keys : HsmKeys) (request : Request) → IsSome (key_set_of keys (prefix_of request.ksn)) → IsUsable request.ksn.counter → ¬ IsAuthentic keys request → IsOtherMac keys request.ksn (authenticated_text request) request.mac
other_mac keys request some usable not =
    let set = held (key_set_of keys (prefix_of request.ksn)) some in
    let key = derived_key_of set.0 request.ksn in
    let key_is : IsTransactionKey keys request.ksn key = record { bdk = set.0; held = set.1; usable = usable; key_is = refl } in
    record { key = key; key_is = key_is; mac_is_other = λ same. not (record { key = key; key_is = key_is; mac_is = same }) }

-- the case of the least reason
pub case_of : (basis : JudgementBasis) (request : Request) (why : Reason) → IsReasonAgainst basis request why → Case basis request why
case_of basis request reason.Malformed first = first.fails
case_of basis request reason.UnknownKeySet first = first.fails
case_of basis request reason.BadCounter first = record { held = first.earlier_met reason.UnknownKeySet (omega arith); unusable = first.fails }
case_of basis request reason.BadMac first = other_mac basis.keys request (first.earlier_met reason.UnknownKeySet (omega arith)) (first.earlier_met reason.BadCounter (omega arith)) first.fails
case_of basis request reason.Used first = record { authentic = first.earlier_met reason.BadMac (omega arith); no_repeat = first.fails.0; used = first.fails.1 }
case_of basis request reason.LogFull first = record {
  authentic = first.earlier_met reason.BadMac (omega arith);
  no_repeat = first.fails.0;
  fresh = first.earlier_met reason.Used (omega arith);
  full = first.fails.1;
}

before_key_set : (basis : JudgementBasis) (request : Request) → AllBefore reason_number (Passes basis request) reason.UnknownKeySet
before_key_set basis request reason.Malformed below = tt
before_key_set basis request reason.UnknownKeySet below = absurd (omega (arith, below))
before_key_set basis request reason.BadCounter below = absurd (omega (arith, below))
before_key_set basis request reason.BadMac below = absurd (omega (arith, below))
before_key_set basis request reason.Used below = absurd (omega (arith, below))
before_key_set basis request reason.LogFull below = absurd (omega (arith, below))

before_counter : (basis : JudgementBasis) (request : Request) → IsSome (key_set_of basis.keys (prefix_of request.ksn)) → AllBefore reason_number (Passes basis request) reason.BadCounter
before_counter basis request held reason.Malformed below = tt
before_counter basis request held reason.UnknownKeySet below = held
before_counter basis request held reason.BadCounter below = absurd (omega (arith, below))
before_counter basis request held reason.BadMac below = absurd (omega (arith, below))
before_counter basis request held reason.Used below = absurd (omega (arith, below))
before_counter basis request held reason.LogFull below = absurd (omega (arith, below))

before_mac : (basis : JudgementBasis) (request : Request) (key : List ℕ) → IsTransactionKey basis.keys request.ksn key → AllBefore reason_number (Passes basis request) reason.BadMac
before_mac basis request key is reason.Malformed below = tt
before_mac basis request key is reason.UnknownKeySet below = is_held _ is.bdk is.held
before_mac basis request key is reason.BadCounter below = is.usable
before_mac basis request key is reason.BadMac below = absurd (omega (arith, below))
before_mac basis request key is reason.Used below = absurd (omega (arith, below))
before_mac basis request key is reason.LogFull below = absurd (omega (arith, below))

before_used : (basis : JudgementBasis) (request : Request) → IsAuthentic basis.keys request → AllBefore reason_number (Passes basis request) reason.Used
before_used basis request authentic reason.Malformed below = tt
before_used basis request authentic reason.UnknownKeySet below = is_held _ authentic.key_is.bdk authentic.key_is.held
before_used basis request authentic reason.BadCounter below = authentic.key_is.usable
before_used basis request authentic reason.BadMac below = authentic
before_used basis request authentic reason.Used below = absurd (omega (arith, below))
before_used basis request authentic reason.LogFull below = absurd (omega (arith, below))

before_room : (basis : JudgementBasis) (request : Request) → IsAuthentic basis.keys request → ¬ IsUsed basis.used request.ksn → AllBefore reason_number (Passes basis request) reason.LogFull
before_room basis request authentic fresh reason.Malformed below = tt
before_room basis request authentic fresh reason.UnknownKeySet below = is_held _ authentic.key_is.bdk authentic.key_is.held
before_room basis request authentic fresh reason.BadCounter below = authentic.key_is.usable
before_room basis request authentic fresh reason.BadMac below = authentic
before_room basis request authentic fresh reason.Used below = fresh
before_room basis request authentic fresh reason.LogFull below = absurd (omega (arith, below))

-- two values of one option are equal
one_value : {A : Type 0} (found : Option A) (one other : A) → found ≡ Some one → found ≡ Some other → one ≡ other
one_value found one other is same = cc

-- a key serial number has at most one transaction key
pub one_key : (keys : HsmKeys) (ksn : Serial) (key other : List ℕ) → IsTransactionKey keys ksn key → IsTransactionKey keys ksn other → key ≡ other
one_key keys ksn key other one two =
    one.key_is ∙ ap (λ bdk. derived_key_of bdk ksn) (one_value (key_set_of keys (prefix_of ksn)) one.bdk two.bdk one.held two.held) ∙ sym two.key_is

-- no text has two MACs for requests
pub no_other_mac : (keys : HsmKeys) (ksn : Serial) (text mac : List ℕ) → IsOtherMac keys ksn text mac → IsRequestMac keys ksn text mac → ⊥
no_other_mac keys ksn text mac other is =
    other.mac_is_other (rw (one_key keys ksn is.key other.key is.key_is other.key_is) at is.mac_is)

-- the least reason of the case
pub reason_of : (basis : JudgementBasis) (request : Request) (why : Reason) → Case basis request why → IsReasonAgainst basis request why
reason_of basis request reason.Malformed says = absurd says
reason_of basis request reason.UnknownKeySet says = record { fails = says; earlier_met = before_key_set basis request }
reason_of basis request reason.BadCounter says = record { fails = says.unusable; earlier_met = before_counter basis request says.held }
reason_of basis request reason.BadMac says = record {
  fails = λ authentic. no_other_mac basis.keys request.ksn _ _ says authentic;
  earlier_met = before_mac basis request says.key says.key_is;
}
reason_of basis request reason.Used says = record { fails = (says.no_repeat, says.used); earlier_met = before_used basis request says.authentic }
reason_of basis request reason.LogFull says = record { fails = (says.no_repeat, says.full); earlier_met = before_room basis request says.authentic says.fresh }

-- a reason against the MAC is the least
pub mac_case : (basis : JudgementBasis) (request : Request) (why : Reason) → IsReasonAgainstMac basis.keys request why → Case basis request why
mac_case basis request reason.Malformed against = against
mac_case basis request reason.UnknownKeySet against = against
mac_case basis request reason.BadCounter against = against
mac_case basis request reason.BadMac against = against
mac_case basis request reason.Used against = absurd against
mac_case basis request reason.LogFull against = absurd against
