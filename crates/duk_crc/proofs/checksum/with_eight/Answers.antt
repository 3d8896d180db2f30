use Rattle.std.proofs.Common.{ℕ, ◌<◌, List, fold, get_or, ap, sym, ◌∙◌, arith}
use Rattle.duk_crc.specs.Crc32.{with_byte}
use Rattle.duk_crc.proofs.EightBytes.{all_eight, eight_bytes}
use Rattle.duk_crc.proofs.checksum.with_eight.Goals as goal

pub returns : goal.returns
returns c =
    let bytes : List ℕ = c.args.bytes.now in
    let at : ℕ → ℕ = λ place. get_or bytes place 0 in
    let fits : (place : ℕ) → at place < 256 = λ place. omega (arith, c.type_inv.bytes place) in
    rw (c.left_by.ensures, c.left_by-2.ensures, c.left_by-3.ensures, c.left_by-4.ensures, c.left_by-5.ensures, c.left_by-6.ensures, c.left_by-7.ensures, c.left_by-8.ensures)
    (sym (ap (fold with_byte c.args.remainder) (all_eight bytes c.requires)
    ∙ eight_bytes c.args.remainder (at 0) (at 1) (at 2) (at 3) (at 4) (at 5) (at 6) (at 7) (omega arith) (fits 0) (fits 1) (fits 2) (fits 3) (fits 4) (fits 5) (fits 6) (fits 7)))
