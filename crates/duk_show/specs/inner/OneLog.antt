-- What only private functions and proofs say of the numbers of one log: this project's own.
use Rattle.std.specs.Prelude.{◌==◌, ◌∷◌, ℕ, List, [], map, if◌then◌else◌}
use Rattle.duk_host.specs.Used.{AreUsable}
use Rattle.duk_tree.specs.Serial.{Serial}
use Rattle.duk_show.specs.declared.one_log.Keeps.{Keeps}
use Rattle.duk_show.specs.declared.one_log.Keeps.TheVariants.{Used, Issued}

-- which numbers a log keeps that begins with these
abbrev pub kept_of : List Serial → Keeps
kept_of [] = Used
kept_of (first ∷ rest) = if first.counter == 0 then Issued else Used

-- the counter of an initial key serial number as one that may be used, and any other as one that
-- may not
abbrev pub other_counter : ℕ → ℕ
other_counter counter = if counter == 0 then 1 else 0

abbrev pub as_used : Keeps → Serial → Serial
as_used Used number = number
as_used Issued number = record { iksn = number.iksn; counter = other_counter number.counter }

-- these numbers, each as one that may be used, may have been used
abbrev pub AreUsableAs : Keeps → List Serial → Type 0
AreUsableAs keeps numbers = AreUsable (map (as_used keeps) numbers)
