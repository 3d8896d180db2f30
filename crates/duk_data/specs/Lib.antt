pub mod DataKeys
