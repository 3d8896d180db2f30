pub mod Serial
pub mod Path
pub mod Derivation
pub mod Next
pub mod Frontier
pub mod inner
