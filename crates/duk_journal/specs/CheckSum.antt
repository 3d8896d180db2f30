-- The check sum of a list of entries: this project's own. Each entry is three words, and the words of
-- all entries are folded into three sums.
use Rattle.std.specs.Prelude.{◌+◌, ◌*◌, ◌%◌, ◌^◌, ℕ}
use Rattle.std.specs.List.{fold}
use Rattle.byteorder.specs.Endian.{big_number}
use Rattle.duk_tree.specs.Serial.{serial_bytes}
use Rattle.duk_journal.specs.Entry.{figure_of, kind_of, outcome_of}
use Rattle.duk_journal.specs.Groups.{Entries}
use Rattle.duk_journal.specs.declared.check_sum.CheckSum.{CheckSum}
use Rattle.duk_journal.specs.declared.entry.Decided.{Decided}
use Rattle.duk_journal.specs.declared.entry.Entry.{Entry}

-- the prime by which the hash FNV of 128 bits multiplies: an odd number, so that two sums stay
-- different whatever is folded into both
abbrev pub multiplier : ℕ
multiplier = 309485009821345068724781371

-- a sum with one word more
abbrev pub folded : ℕ → ℕ → ℕ
folded sum word = (sum * multiplier % 2 ^ 128 + word) % 2 ^ 128

-- what a record has of a decision, as one number: the kind, the four bytes of the figure, and the
-- outcome
abbrev pub decision_word : Decided → ℕ
decision_word decided =
    (kind_of decided * 2 ^ 32 + figure_of decided) * 2 ^ 8 + outcome_of decided

-- the sums with one entry more
abbrev pub with_entry : CheckSum → Entry → CheckSum
with_entry sum entry = record {
  numbers = folded sum.numbers (big_number 10 (serial_bytes entry.number));
  decisions = folded sum.decisions (decision_word entry.decided);
  macs = folded sum.macs (big_number 8 entry.mac);
}

-- the check sum of entries
abbrev pub check_sum_of : Entries → CheckSum
check_sum_of entries =
    fold with_entry (record { numbers = 0; decisions = 0; macs = 0 }) entries
