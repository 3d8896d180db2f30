pub mod ImageParts
pub mod Past
