-- No two transactions use one number, and no register holds a used key.
pub mod WorldSafe
pub mod UsedOnce
pub mod NoUsedKey
