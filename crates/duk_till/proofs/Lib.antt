mod Spare
mod Waits
mod NotKept
mod Places
mod Told
mod Histories
mod LifetimeOfTill
mod NewNumbers
