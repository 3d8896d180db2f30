-- What a move of a world changes, and what holds of every world that is reached.
pub mod HostAnswers
pub mod RunsGoOn
pub mod StepChanges
pub mod ReachedByMoves
