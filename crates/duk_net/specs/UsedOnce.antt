-- The numbers of transactions: this project's own, over the key serial numbers of ANSI X9.24-1:2009
-- annex A.
use Rattle.std.specs.Prelude.{◌≡◌, ℕ, List, All, AllPairs, Contains}
use Rattle.duk_frame.specs.Request.{IsRequest}
use Rattle.duk_frame.specs.declared.request.Request.{Request}
use Rattle.duk_tree.specs.Path.{IsUsable}
use Rattle.duk_tree.specs.Serial.{Serial}
use Rattle.duk_stations.specs.Owner.{IsOwner}
use Rattle.duk_net.specs.World.{Frame}
use Rattle.duk_net.specs.declared.outcome.Outcome.{Outcome}
use Rattle.duk_net.specs.declared.outcome.Outcome.TheVariants as outcome
use Rattle.duk_stations.specs.declared.owner.Owner.{Owner}

-- the number of a request: the key serial number in its frame
pub record HasNumber (frame : Frame) (ksn : Serial) : Type 0 where
  pub request : Request
  pub is_request : IsRequest frame.items request
  pub ksn_is : ksn ≡ request.ksn

-- a number is used: a request with it was sent
pub record IsUsedNumber (requests : List Frame) (ksn : Serial) : Type 0 where
  pub frame : Frame
  pub sent : Contains requests frame
  pub number : HasNumber frame ksn

-- a request whose number is one for a transaction
pub record HasUsableNumber (frame : Frame) : Type 0 where
  pub ksn : Serial
  pub number : HasNumber frame ksn
  pub usable : IsUsable ksn.counter

-- two requests have no number in common
abbrev pub HaveDifferentNumbers : Frame → Frame → Type 0
HaveDifferentNumbers one other = (ksn : Serial) → HasNumber one ksn → ¬ HasNumber other ksn

-- no two use one number: each request that was ever sent has a usable number, and no two of them
-- have one number
pub record UsedOnce (requests : List Frame) : Type 0 where
  pub usable : All HasUsableNumber requests
  pub different : AllPairs HaveDifferentNumbers requests

-- each used number is owned: its initial key serial number has one owner
abbrev pub AreUsedOwned : List Frame → List Owner → Type 0
AreUsedOwned requests owners =
    (ksn : Serial) → IsUsedNumber requests ksn → (t : ℕ) × IsOwner owners ksn.iksn t

-- where a request was sent, the terminal owns the initial key serial number
abbrev pub IsSentByOwner : List Owner → Outcome → Type 0
IsSentByOwner owners (outcome.Sent t k ksn) = IsOwner owners ksn.iksn t
IsSentByOwner owners _ = Unit {0}
