-- How many records an open one of a journal says to follow.
use Rattle.std.proofs.Common.{◌≡◌, ◌≢◌, ◌∙◌, ◌+◌, ◌*◌, ℕ, zero, suc, List, ap, arith, refl, subst, sym}
use Rattle.std.specs.Int.{from_be_bytes, w16}
use Rattle.duk_journal_copy.specs.declared.version.Version.{Version}
use Rattle.duk_journal_copy.specs.declared.version.Version.TheVariants.{One, Two}
use Rattle.duk_store.specs.Disk.{range_of}
use Rattle.duk_service.specs.LeftRecords.{followers_in, record_at}
use Rattle.duk_service.specs.declared.left_records.Layout.TheVariants.{Journal}
use Rattle.duk_service.proofs.LeftRecords.{range_within}

-- what an open record of a journal says of those that follow
followers_there : (version : Version) (place : ℕ) (bytes : List ℕ) → range_of 2 2 (record_at (Journal version) place bytes) ≡ range_of (32 * place + 2) 2 bytes
followers_there version place bytes = range_within 2 2 32 (32 * place) bytes (omega arith)

said_there : (version : Version) (place said : ℕ) (bytes piece : List ℕ) → said ≡ from_be_bytes w16 piece → piece ≡ range_of (32 * place + 2) 2 bytes
    → said ≡ from_be_bytes w16 (range_of 2 2 (record_at (Journal version) place bytes))
said_there version place said bytes piece read there = read ∙ ap (from_be_bytes w16) (there ∙ sym (followers_there version place bytes))

-- but for a header
pub followers_read : (version : Version) (place said : ℕ) (bytes piece : List ℕ) → (version ≡ Two → place ≢ 0) → said ≡ from_be_bytes w16 piece
    → piece ≡ range_of (32 * place + 2) 2 bytes → said ≡ followers_in (Journal version) place (record_at (Journal version) place bytes)
followers_read One place said bytes piece behind read there = said_there One place said bytes piece read there
followers_read Two zero said bytes piece behind read there = absurd (behind refl refl)
followers_read Two (suc place) said bytes piece behind read there = said_there Two (suc place) said bytes piece read there

pub header_has_none : (version : Version) (place : ℕ) (bytes : List ℕ) → (version ≡ Two) × (place ≡ 0) → 0 ≡ followers_in (Journal version) place (record_at (Journal version) place bytes)
header_has_none version place bytes is =
    subst (λ (v : Version). 0 ≡ followers_in (Journal v) place (record_at (Journal v) place bytes)) (sym is.0)
    (subst (λ (n : ℕ). 0 ≡ followers_in (Journal Two) n (record_at (Journal Two) n bytes)) (sym is.1) refl)
