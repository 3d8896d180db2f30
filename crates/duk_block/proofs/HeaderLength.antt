-- The length of a header's text.
use Rattle.std.proofs.Common.{◌≡◌, ℕ, List, ◌++◌, length, codes, length-append, arith}
use Rattle.duk_block.specs.declared.header.Header.{Header}
use Rattle.duk_block.specs.Digits.{four_digits, two_digits}
use Rattle.duk_block.specs.HeaderText.{HasWidths, fields, header_text}

pub length-fields : (header : Header) → HasWidths header → length (fields header) ≡ 7
length-fields header widths =
    simp length-append (omega arith)

pub length-header_text : (total : ℕ) (header : Header) (count : ℕ) (reserved : List ℕ) → HasWidths header → length reserved ≡ 2
    → length (header_text total header count reserved) ≡ 16
length-header_text total header count reserved widths two =
    let seven : length (fields header) ≡ 7 = length-fields header widths in
    omega (
      arith,
      length-append (codes "B" ++ four_digits total ++ fields header ++ two_digits count) reserved,
      length-append (codes "B" ++ four_digits total ++ fields header) (two_digits count),
      length-append (codes "B" ++ four_digits total) (fields header),
    )
