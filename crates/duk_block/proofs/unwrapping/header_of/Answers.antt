use Rattle.std.proofs.Common.{◌≡◌, ◌<◌, ℕ, true, List, [], ◌∷◌, length, take, get_or, sym, ap, subst, ◌∙◌, arith, rules}
use Rattle.std.specs.List.{All}
use Rattle.std.proofs.lemmas.Bool.{false≢true}
use Rattle.duk_block.specs.Faults.{HasLength}
use Rattle.duk_block.specs.HeaderText.{IsHeader, IsPrintable}
use Rattle.duk_block.proofs.FaultOrder.{met_before_field}
use Rattle.duk_block.proofs.unwrapping.header_of.Goals as goal

take_one : (bytes : List ℕ) (byte : ℕ) → 0 < length bytes → get_or bytes 0 0 ≡ byte → take 1 bytes ≡ byte ∷ []
take_one [] byte some same = absurd (omega arith)
take_one (first ∷ bytes) byte some same = ap (λ one. one ∷ []) same

pub returns-then-not-is_printable-clause-refused : goal.returns-then-not-is_printable-clause-refused
returns-then-not-is_printable-clause-refused c = λ protection_key.
    let text = c.args.text.now in
    let has_length : HasLength text = search rules in
    let P : List ℕ → Type 0 = All IsPrintable in
    record {
      fails = λ met.
          let header : IsHeader c.from_text-header.result = record { widths = c.from_text-header.ensures.widths; printable = subst P (sym c.from_text-header.ensures.fields) met.0 } in
          let printable : c.is_printable.result ≡ true = c.is_printable.ensures.1 header in
          false≢true (sym c.if-not-is_printable.true ∙ printable);
      earlier_met = met_before_field text protection_key has_length (take_one text 66 (omega (arith, has_length.limits.least)) c.if-text-ne66.false);
    }
