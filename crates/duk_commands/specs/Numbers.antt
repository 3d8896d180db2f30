-- Initial key serial numbers in a row (this project's own, over the key serial numbers of
-- ANSI X9.24-1:2009 annex A).
use Rattle.std.specs.Prelude.{◌≡◌, ◌<◌, ◌≤◌, ◌+◌, ◌-◌, ◌*◌, ◌/◌, ◌^◌, ℕ}

-- the number at a place after the first, which is counted from 0: each lies 2^21, as many as there
-- are counters, above the one before it
abbrev pub iksn_at : ℕ → ℕ → ℕ
iksn_at first place = first + place * 2 ^ 21

-- the key set of an initial key serial number: the first 40 of its 80 bits, the prefix by which a
-- host chooses the base derivation key
abbrev pub key_set : ℕ → ℕ
key_set iksn = iksn / 2 ^ 40

-- for how many terminals keys may be issued at once: as many as a key set has
abbrev pub most_terminals : ℕ
most_terminals = 524288

-- keys may be issued for so many terminals at once, and the last of their numbers has 80 bits and
-- the key set of the first
pub record FitsFrom (first count : ℕ) : Type 0 where
  pub some : 1 ≤ count
  pub most : count ≤ most_terminals
  pub last : iksn_at first (count - 1) < 2 ^ 80
  pub same_set : key_set (iksn_at first (count - 1)) ≡ key_set first
