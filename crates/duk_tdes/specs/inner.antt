pub mod Tdes
