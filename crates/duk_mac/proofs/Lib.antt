pub mod FirstBlock
pub mod LastBlockMasked
pub mod LastBlockFilled
pub mod CarryBit
pub mod CmacIsBlock
