-- The payments that stand, as the set of reversed numbers tells them.
use Rattle.std.proofs.Common.{◌≡◌, ◌↔◌, Bool, Contains, IsTrue}
use Rattle.std.proofs.lemmas.Bool.Decides.{Decides-like, same_from_decides}
use Rattle.duk_host.specs.Used.{IsUsed}
use Rattle.duk_journal.specs.Groups.{Entries}
use Rattle.duk_journal.specs.Standing.{is_reversed, reversed_numbers}
use Rattle.duk_store.specs.Log.{Numbers}
use Rattle.duk_tree.specs.Serial.{Serial}
use Rattle.duk_show.specs.inner.Journal.{AreThose}

pub told : (all : Entries) (reversed : Numbers) (n : Serial) (found : Bool) → (IsTrue (is_reversed all n) ↔ Contains (reversed_numbers all) n)
    → AreThose (reversed_numbers all) reversed → (IsTrue found ↔ IsUsed reversed n) → is_reversed all n ≡ found
told all reversed n found decides those finds = same_from_decides (is_reversed all n) found decides (Decides-like found (those n).1 (those n).0 finds)
