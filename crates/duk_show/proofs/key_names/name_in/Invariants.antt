use Rattle.std.proofs.Common.{◌≡◌, true, length, map, nat_le}
use Rattle.std.specs.List.{list_all}
use Rattle.duk_show.specs.KeyNames.{name_in}
use Rattle.duk_show.proofs.key_names.name_in.Given as goal

-- the name is that in what is left of the table, whose names are short
abbrev pub invariant-loop-rest : goal.invariant-loop-rest
invariant-loop-rest l = record {
  same : name_in (map (λ entry. (entry.0.now, entry.1.now)) l.rest) l.value ≡ name_in (map (λ entry. (entry.0.now, entry.1.now)) l.table) l.value;
  short : list_all (λ entry. nat_le (length entry.1.now) 80) l.rest ≡ true;
}

abbrev pub decreases-loop-rest : goal.decreases-loop-rest
decreases-loop-rest l = length l.rest
