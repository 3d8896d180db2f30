-- Each law is the law of TDES, once for each block.
use Rattle.std.proofs.Common.{ℕ, ◌/◌, List, length, sym, ◌∙◌, arith}
use Rattle.duk_tdes.specs.Cbc.{AreWholeBlocks}
use Rattle.duk_tdes.proofs.CbcDecryptionUndoes.{AreBlocks, cipher_blocks, plain_blocks, cbc_decrypted-cbc_encrypted, cbc_encrypted-cbc_decrypted}
use Rattle.duk_tdes.proofs.laws.cbc_inverse.Goals as goal

counted : (bytes : List ℕ) → AreWholeBlocks bytes → AreBlocks (length bytes / 8) bytes
counted bytes whole = record { count_is = omega arith; fit = whole.bytes_fit }

pub returns-clause-deciphered : goal.returns-clause-deciphered
returns-clause-deciphered c key initial_vector bytes of_key of_vector of_bytes =
    let law = c.inverse.ensures in
    cbc_decrypted-cbc_encrypted key (record { undone = λ block is. law.deciphered key block of_key is; block = λ block is. law.cipher_block key block of_key is })
    (length bytes / 8) initial_vector bytes of_vector (counted bytes of_bytes)

pub returns-clause-enciphered : goal.returns-clause-enciphered
returns-clause-enciphered c key initial_vector bytes of_key of_vector of_bytes =
    let law = c.inverse.ensures in
    cbc_encrypted-cbc_decrypted key (record { undone = λ block is. law.enciphered key block of_key is; block = λ block is. law.plain_block key block of_key is })
    (length bytes / 8) initial_vector bytes of_vector (counted bytes of_bytes)

pub returns-clause-cipher_blocks : goal.returns-clause-cipher_blocks
returns-clause-cipher_blocks c key initial_vector bytes of_key of_vector of_bytes =
    let law = c.inverse.ensures in
    let blocks = cipher_blocks key (record { undone = λ block is. law.deciphered key block of_key is; block = λ block is. law.cipher_block key block of_key is })
    (length bytes / 8) initial_vector bytes of_vector (counted bytes of_bytes) in
    record { whole = omega (arith, blocks.count_is); bytes_fit = blocks.fit }

pub returns-clause-plain_blocks : goal.returns-clause-plain_blocks
returns-clause-plain_blocks c key initial_vector bytes of_key of_vector of_bytes =
    let law = c.inverse.ensures in
    let blocks = plain_blocks key (record { undone = λ block is. law.enciphered key block of_key is; block = λ block is. law.plain_block key block of_key is })
    (length bytes / 8) initial_vector bytes of_vector (counted bytes of_bytes) in
    record { whole = omega (arith, blocks.count_is); bytes_fit = blocks.fit }

pub returns-clause-cipher_length : goal.returns-clause-cipher_length
returns-clause-cipher_length c key initial_vector bytes of_key of_vector of_bytes =
    let law = c.inverse.ensures in
    let blocks = cipher_blocks key (record { undone = λ block is. law.deciphered key block of_key is; block = λ block is. law.cipher_block key block of_key is })
    (length bytes / 8) initial_vector bytes of_vector (counted bytes of_bytes) in
    blocks.count_is ∙ sym (counted bytes of_bytes).count_is

pub returns-clause-plain_length : goal.returns-clause-plain_length
returns-clause-plain_length c key initial_vector bytes of_key of_vector of_bytes =
    let law = c.inverse.ensures in
    let blocks = plain_blocks key (record { undone = λ block is. law.enciphered key block of_key is; block = λ block is. law.plain_block key block of_key is })
    (length bytes / 8) initial_vector bytes of_vector (counted bytes of_bytes) in
    blocks.count_is ∙ sym (counted bytes of_bytes).count_is
