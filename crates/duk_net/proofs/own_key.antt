-- The host derives the terminal's own key for each number.
pub mod OwnKey
