-- Sound stores report no damage, and calm stores do not fail.
pub mod TillCalls
pub mod HostCalls
pub mod KnownStores
pub mod CalmSteps
pub mod CalmStores
pub mod CalmRestarts
