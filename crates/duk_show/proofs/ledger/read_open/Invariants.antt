use Rattle.std.proofs.Common.{◌≡◌, ◌≤◌, ◌+◌, ◌*◌, length, take}
use Rattle.duk_show.specs.Ledger.{IsLedger}
use Rattle.duk_show.proofs.ledger.read_open.Given as goal

-- the records so far are those of a ledger with the issues so far
abbrev pub invariant-loop-place : goal.invariant-loop-place
invariant-loop-place l = record {
  within : 32 * l.place ≤ length l.bytes;
  count : 1 + length l.issues.items ≡ l.place;
  are : IsLedger (take (32 * l.place) l.bytes) l.issues.items;
}
