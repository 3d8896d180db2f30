-- What the lanes give, lane by lane.
use Rattle.std.proofs.Common.{ℕ, List, ap, ap₂, sym, ◌∙◌, arith}
use Rattle.duk_group.specs.Blocks.{block_of}
use Rattle.duk_group.specs.Numbers.{message_at}
use Rattle.duk_mac.specs.Retail.{retail_of}
use Rattle.duk_tdes.specs.Tdes.{tdes_decrypted}
use Rattle.duk_tree.specs.Derivation.{pin_key_of, request_key_of}
use Rattle.duk_hsm.specs.inner.Known.{under}
use Rattle.duk_hsm.proofs.lanes.make.Goals as goal

pub returns-clause-macs : goal.returns-clause-macs
unfolding block_of
returns-clause-macs c = λ i h.
    c.scatter_wide.ensures i (omega arith)
    ∙ c.retail_macs-macs.ensures i (omega arith)
    ∙ ap (λ key. retail_of key (message_at c.args.texts.now i)) (c.request_keys.ensures i (omega arith))
    ∙ ap (λ key. retail_of (request_key_of key) (message_at c.args.texts.now i)) (sym (c.scatter_keys.ensures i (omega arith)))

pub returns-clause-clears : goal.returns-clause-clears
unfolding block_of
returns-clause-clears c = λ i h is_block.
    c.scatter_wide-2.ensures i (omega arith)
    ∙ c.decrypt-clears.ensures i (omega arith)
    ∙ ap₂ (λ (key block : List ℕ). tdes_decrypted key block)
    (c.pin_keys.ensures i (omega arith) ∙ ap pin_key_of (sym (c.scatter_keys.ensures i (omega arith))))
    (c.gather_blocks.ensures i (omega arith) is_block)

pub returns-clause-ciphers : goal.returns-clause-ciphers
unfolding block_of
returns-clause-ciphers c = λ i h. c.under_zone.ensures i h ∙ ap (under c.args.zone.now) (sym (c.scatter_wide-2.ensures i (omega arith)))
