-- What only private functions and proofs say of the terminals of a journal: this project's own.
use Rattle.std.specs.Prelude.{◌≡◌, ◌<◌, ◌≤◌, ◌+◌, ◌*◌, ◌^◌, ◌&&◌, if◌then◌else◌, ℕ, Bool, List, Option, None, Some, IfSome, ◌++◌, [], cond, count_by, flat_map, length, nat_eq, sum_by}
use Rattle.std.specs.List.{IsDistinct, filter, list_any}
use Rattle.std.specs.Map.{keys_of, lookup}
use Rattle.std.specs.Option.{is_some}
use Rattle.duk_journal.specs.Groups.{Entries}
use Rattle.duk_journal.specs.Standing.{amount_approved, is_by, is_paid, is_payment, is_reversed, is_undone, standing_amount, was_approved}
use Rattle.duk_journal.specs.declared.entry.Decided.{Decided}
use Rattle.duk_journal.specs.declared.entry.Entry.{Entry}
use Rattle.duk_tree.specs.Serial.{Serial}
use Rattle.duk_show.specs.Journal.{numbers_of, payer_lines, terminal_line}
use Rattle.duk_show.specs.Log.{last_after}
use Rattle.duk_show.specs.declared.journal_tallies.Payer.{Payer}
use Rattle.duk_show.specs.declared.journal_tallies.Share.{Share}

-- what an entry adds to the line of its terminal, whose number was reversed or was not
abbrev pub share_if : Bool → Decided → Share
share_if reversed decided = record {
  payments = cond (is_paid decided) 1 0;
  approved = if reversed then 0 else amount_approved decided;
  undone = cond (reversed && was_approved decided) 1 0;
}

-- among all that are kept
abbrev pub share_of : Entries → Entry → Share
share_of all entry = share_if (is_reversed all entry.number) entry.decided

-- a share is of one entry at most
pub record IsSmall (share : Share) : Type 0 where
  pub payments_fit : share.payments ≤ 1
  pub approved_fits : share.approved < 2 ^ 32
  pub undone_fits : share.undone ≤ 1

-- a terminal after an entry of its own
abbrev pub with_share : Option Payer → Serial → Share → Payer
with_share None number share = record {
  first = number;
  last = number;
  payments = share.payments;
  approved = share.approved;
  undone = share.undone;
}
with_share (Some payer) number share = record {
  first = payer.first;
  last = number;
  payments = payer.payments + share.payments;
  approved = payer.approved + share.approved;
  undone = payer.undone + share.undone;
}

abbrev pub next_payer : Entries → Option Payer → Entry → Payer
next_payer all payer entry = with_share payer entry.number (share_of all entry)

-- one more entry may be counted
pub record HasRoom (payer : Payer) : Type 0 where
  pub payments : payer.payments < 2 ^ 63
  pub approved : payer.approved < 2 ^ 96
  pub undone : payer.undone < 2 ^ 63

-- a terminal, with more entries of its own
abbrev pub with_own : Entries → Payer → Entries → Payer
with_own all payer own = record {
  first = payer.first;
  last = last_after payer.last (numbers_of own);
  payments = payer.payments + count_by is_payment own;
  approved = payer.approved + sum_by (standing_amount all) own;
  undone = payer.undone + count_by (is_undone all) own;
}

-- the line of a terminal
abbrev pub payer_line : Payer → List ℕ
payer_line payer = terminal_line payer.first payer.last payer.payments payer.approved payer.undone

-- the line of a terminal, with what is left to count of it
abbrev pub line_with : Entries → Entries → ℕ × Payer → List ℕ
line_with all rest entry = payer_line (with_own all entry.1 (filter (is_by entry.0) rest))

-- what was counted of a terminal among so many entries
pub record IsWithin (count : ℕ) (payer : Payer) : Type 0 where
  pub payments_in : payer.payments ≤ count
  pub approved_in : payer.approved ≤ 2 ^ 32 * count
  pub undone_in : payer.undone ≤ count

-- the terminals of the entries before, as they stand in the index; with what is left to count their
-- lines, and those of terminals still to come, are the lines of all
pub record ArePayers (before rest all : Entries) (entries : List (ℕ × Payer)) : Type 0 where
  pub lines : flat_map (line_with all rest) entries ++ payer_lines all before rest
      ≡ payer_lines all [] all
  pub seen : (iksn : ℕ) → is_some (lookup (nat_eq iksn) entries) ≡ list_any (is_by iksn) before
  pub fits : (iksn : ℕ) → IfSome (lookup (nat_eq iksn) entries) (IsWithin (length before))
  pub unique : IsDistinct nat_eq (keys_of entries)
