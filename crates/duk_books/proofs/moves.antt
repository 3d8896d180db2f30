-- What a move changes, and what holds of all that is reached.
pub mod HostAnswers
pub mod RunsGoOn
pub mod ReachedByMoves
pub mod CallsLead
pub mod StepChanges
pub mod TillMoves
pub mod KeysStay
pub mod HostFinds
