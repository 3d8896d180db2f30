use Rattle.std.proofs.Common.{List, ℕ, [], ◌++◌, ap, ◌∙◌}
use Rattle.std.proofs.lemmas.List.{append_assoc}
use Rattle.byteorder.specs.Endian.{big_bytes}
use Rattle.duk_crc.specs.Crc32.{crc32}
use Rattle.duk_journal.proofs.checked_format.check_sum.Goals as goal

pub returns : goal.returns
returns c =
    let own : List ℕ = c.to_be_bytes.result in
    let at : List ℕ = c.to_be_bytes-2.result in
    let said : List ℕ = c.args.said.now in
    c.check_sum.ensures ((own ++ at) ++ said) (c.with-2.ensures (own ++ at) (c.with-division.ensures own (c.with.ensures [] c.new.ensures)))
    ∙ ap crc32 (append_assoc own at said)
    ∙ ap (λ (l : List ℕ). crc32 (l ++ (at ++ said))) c.to_be_bytes.ensures
    ∙ ap (λ (l : List ℕ). crc32 (big_bytes 8 c.args.identity ++ (l ++ said))) c.to_be_bytes-2.ensures
