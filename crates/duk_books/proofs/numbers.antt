-- That no two frames of tills use one number, that no used key stays, and under which keys tills send.
pub mod BookBodies
pub mod AllSafe
pub mod EachMoveSafe
pub mod SentByOwner
pub mod NoUsedKey
pub mod OwnKey
pub mod ReplyKeys
pub mod OpenedTills
