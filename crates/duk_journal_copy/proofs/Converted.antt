-- What contents say in a format of either version, and what a record says whose contents are written.
use Rattle.std.proofs.Common.{◌≡◌, ◌∙◌, ◌+◌, ◌-◌, ◌≤◌, ◌++◌, ℕ, List, arith, drop, get_or, length, length-append, length-drop, slice_set, sym, take}
use Rattle.std.proofs.lemmas.List.{get_or-set_same, get_or-take, get_or_append_left, length-set, length-take-le}
use Rattle.std.proofs.lemmas.Slice.{between-put_mid, between_to_end}
use borrow.Rule.Slice.PartMut.{put_mid}
use Rattle.duk_journal.specs.RecordFormat.{MayBeKept}
use Rattle.duk_journal.specs.declared.entry.Entry.{Entry}
use Rattle.duk_journal_copy.specs.Version.{format_of}
use Rattle.duk_journal_copy.specs.declared.version.Version.{Version}
use Rattle.duk_journal_copy.specs.declared.version.Version.TheVariants.{One, Two}

pub fits_in : (version : Version) (identity place followers : ℕ) (entry : Entry) (contents : List ℕ) → (format_of version).says identity place followers entry contents → followers + 1 ≤ 4096
fits_in One identity place followers entry contents says = says.followers_fit
fits_in Two identity place followers entry contents says = says.says.followers_fit

pub stands_in : (version : Version) (identity place followers : ℕ) (entry : Entry) (contents : List ℕ) → (format_of version).says identity place followers entry contents → MayBeKept entry
stands_in One identity place followers entry contents says = record { usable = says.entry_is.usable; stands = says.entry_is.stands }
stands_in Two identity place followers entry contents says = record { usable = says.says.entry_is.usable; stands = says.says.entry_is.stands }

-- contents are put behind a gate
pub behind_put : (xs ys : List ℕ) (k : ℕ) → 1 ≤ length xs → k ≡ length xs - 1 → length ys ≡ k → drop 1 (put_mid 1 k xs ys) ≡ ys
behind_put xs ys k some is long =
    let rest : List ℕ = drop k (drop 1 xs) in
    let whole : length (put_mid 1 k xs ys) ≤ length xs =
    omega (arith, some, is, long, length-append (take 1 xs) (ys ++ rest), length-append ys rest, length-take-le 1 xs some, length-drop k (drop 1 xs), length-drop 1 xs) in
    sym (between_to_end (put_mid 1 k xs ys) 1 (length xs) whole) ∙ between-put_mid 1 k xs ys (length xs) some (omega (arith, is, long))

pub gate_put : (xs ys : List ℕ) (k gate : ℕ) → 1 ≤ length xs → get_or (put_mid 1 k (slice_set xs 0 gate) ys) 0 0 ≡ gate
gate_put xs ys k gate some =
    let gated : List ℕ = slice_set xs 0 gate in
    let long : length gated ≡ length xs = length-set xs 0 gate in
    get_or_append_left (take 1 gated) (ys ++ drop k (drop 1 gated)) 0 0 (omega (arith, some, long, length-take-le 1 gated (omega (arith, some, long))))
    ∙ get_or-take 1 gated 0 0 (omega arith) ∙ get_or-set_same xs 0 gate 0 some
