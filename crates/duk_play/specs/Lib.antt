pub mod Script
pub mod OutcomeText
pub mod Opening
pub mod Play
pub mod Session
pub mod inner
