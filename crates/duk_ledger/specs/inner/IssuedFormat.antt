-- What only private functions and proofs say beside `IssuedFormat.antt`: this project's own.
use Rattle.std.specs.Prelude.{◌==◌, ℕ, List, Some, None, take, drop, get_or, if◌then◌else◌}
use Rattle.byteorder.specs.Endian.{big_number}
use Rattle.duk_tree.specs.Serial.{serial_of_bytes}
use Rattle.duk_ledger.specs.declared.issued.Issued.{Issued}
use Rattle.duk_ledger.specs.declared.issued.Made.{Made}

-- what stands where contents say how a key was made
abbrev pub made_in : List ℕ → Made
made_in contents = record {
  key = take 3 (drop 13 contents);
  key_set = take 3 (drop 16 contents);
  run = big_number 4 (drop 19 contents);
}

-- what stands where contents have an issue
abbrev pub issued_in : List ℕ → Issued
issued_in contents = record {
  number = (serial_of_bytes (take 10 (drop 3 contents))).iksn;
  made = if get_or contents 0 0 == 1 then Some (made_in contents) else None;
}
