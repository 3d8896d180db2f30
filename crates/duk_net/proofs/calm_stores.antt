-- Sound stores report no damage, and calm stores do not fail.
pub mod FoundIsUsable
pub mod StoreFaults
pub mod CalmStores
pub mod CalmRestarts
