use Rattle.std.proofs.Common.{ℕ, List, ◌++◌, sym, ap, ap₂, ◌∙◌}
use Rattle.duk_mac.specs.Cmac.{cmac_of}
use Rattle.duk_tdes.specs.Cbc.{cbc_encrypted}
use Rattle.duk_tdes.specs.KeyBytes.{bytes_of}
use Rattle.duk_group.specs.Blocks.{block_of}
use Rattle.duk_group.proofs.key_blocks.seal.Goals as goal

pub returns-clause-macs : goal.returns-clause-macs
unfolding block_of
returns-clause-macs c = λ i h.
    c.scatter_wide.ensures i h
    ∙ c.cmac_under-macs.ensures i h
    ∙ ap (cmac_of (bytes_of c.args.derived.now.mac)) (c.with_front.ensures i h ∙ ap (λ payload. c.args.front.now ++ payload) (c.gather_payloads-blocks.ensures i h))

pub returns-clause-ciphertexts : goal.returns-clause-ciphertexts
unfolding block_of
returns-clause-ciphertexts c = λ i h.
    c.scatter_payloads.ensures i h
    ∙ c.cbc_under.ensures i h
    ∙ ap₂ (λ (mac payload : List ℕ). cbc_encrypted (bytes_of c.args.derived.now.encryption) mac payload) (sym (c.scatter_wide.ensures i h)) (c.gather_payloads-blocks.ensures i h)
