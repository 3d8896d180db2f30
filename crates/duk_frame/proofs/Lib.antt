pub mod PlacesOfFrames
pub mod PlacesOfRequests
pub mod PlacesOfAnswers
pub mod OneReading
pub mod Streams
