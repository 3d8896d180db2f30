pub mod FrontierToFrontier
pub mod CounterBounds
pub mod OneRegisterWritten
pub mod PastIksns
pub mod PiecesInARow
pub mod PastWrittenAndRead
pub mod ImageWrittenAndRead
