-- What a till has begun and told: this project's own.
use Rattle.std.specs.Prelude.{◌≡◌, ◌≢◌, ◌↔◌, ◌∷◌, ◌++◌, [], ℕ, List, Option, Some, None, Contains}
use Rattle.duk_tree.specs.Serial.{Serial}
use Rattle.duk_till.specs.Last.{number_of}
use Rattle.duk_till.specs.declared.last.Last.{Last}
use Rattle.duk_till.specs.declared.last.Last.TheVariants.{Open, Approved, Declined, Undone}
use Rattle.duk_till.specs.declared.last.Payment.{Payment}

-- what is written of a till: that a purchase began, so that its number is taken and the book may
-- keep it as open; and that it was told what became of one
pub data Entry : Type 0 where
  Began : Payment → Entry
  Told : Last → Entry

-- a number and an amount
abbrev pub payment_of : Serial → ℕ → Payment
payment_of ksn amount = record { ksn = ksn; amount = amount }

-- a last purchase is the one that began with this number and this amount
abbrev pub IsOf : Payment → Last → Type 0
IsOf began (Open ksn amount) = began ≡ payment_of ksn amount
IsOf began (Approved ksn amount) = began ≡ payment_of ksn amount
IsOf began (Declined ksn why) = began.ksn ≡ ksn
IsOf began (Undone ksn) = began.ksn ≡ ksn

-- it began in this history, whose newest entry is the first, and these entries came since
pub record HasBegun (history : List Entry) (last : Last) (since : List Entry) : Type 0 where
  pub began : Payment
  pub earlier : List Entry
  pub history_is : history ≡ since ++ Began began ∷ earlier
  pub is_of : IsOf began last

-- ---- what was told is what the book keeps

-- since an open purchase began nothing came; since another did it was told as what it is, and
-- nothing else was
abbrev pub IsToldSince : List Entry → Last → Type 0
IsToldSince since (Open ksn amount) = since ≡ []
IsToldSince since last = (told : Last) → Contains since (Told told) ↔ (told ≡ last)

pub record IsToldAs (history : List Entry) (last : Last) : Type 0 where
  pub since : List Entry
  pub begun : HasBegun history last since
  pub told : IsToldSince since last

-- nothing was ever told
abbrev pub NothingTold : List Entry → Type 0
NothingTold history = (told : Last) → ¬ Contains history (Told told)

-- what was told is what became of the last purchase; with none yet, nothing was
abbrev pub ToldIsKept : List Entry → Option Last → Type 0
ToldIsKept history None = NothingTold history
ToldIsKept history (Some last) = IsToldAs history last

-- ---- what was told is nothing but what the book keeps

-- since an open purchase began nothing came; since another did nothing was told but what it is
abbrev pub NothingElseSince : List Entry → Last → Type 0
NothingElseSince since (Open ksn amount) = since ≡ []
NothingElseSince since last = (told : Last) → Contains since (Told told) → told ≡ last

pub record NothingElseToldOf (history : List Entry) (last : Last) : Type 0 where
  pub since : List Entry
  pub begun : HasBegun history last since
  pub told : NothingElseSince since last

abbrev pub NothingElseTold : List Entry → Option Last → Type 0
NothingElseTold history None = NothingTold history
NothingElseTold history (Some last) = NothingElseToldOf history last

-- ---- numbers

-- each number that a purchase took was new: none before it had taken it
abbrev pub TookNewNumbers : List Entry → Type 0
TookNewNumbers [] = Unit {0}
TookNewNumbers (Told told ∷ earlier) = TookNewNumbers earlier
TookNewNumbers (Began began ∷ earlier) =
    ((other : Payment) → Contains earlier (Began other) → other.ksn ≢ began.ksn)
    × TookNewNumbers earlier

-- of each number only one thing is told, however often
abbrev pub IsToldAlike : List Entry → Type 0
IsToldAlike history =
    (one other : Last) → Contains history (Told one) → Contains history (Told other)
    → number_of one ≡ number_of other → one ≡ other

-- nothing is told but of a purchase that began, with its amount
abbrev pub IsToldOfBegun : List Entry → Type 0
IsToldOfBegun history =
    (told : Last) → Contains history (Told told)
    → (began : Payment) × Contains history (Began began) × IsOf began told

-- of an open purchase nothing was ever told, and of another nothing but what it is
abbrev pub IsEverToldAs : List Entry → Last → Type 0
IsEverToldAs history (Open ksn amount) =
    (told : Last) → Contains history (Told told) → number_of told ≢ ksn
IsEverToldAs history last =
    (told : Last) → Contains history (Told told) → number_of told ≡ number_of last → told ≡ last
