pub mod SingleKeys
pub mod FirstBlock
pub mod OneMoreBlockWritten
pub mod XorOfBlocks
pub mod CbcDecryptionUndoes
pub mod MaskedHalves
