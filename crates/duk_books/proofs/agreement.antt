-- That the merchants' book and that of the host agree.
pub mod Facts
pub mod Registers
pub mod Tills
pub mod QuietCalls
pub mod TellingCalls
pub mod Sending
pub mod HostHolds
pub mod BooksHold
pub mod SentFramesHold
pub mod EachMoveHolds
pub mod Agreement
pub mod SumsCompared
pub mod OwnersAreTills
pub mod Totals
pub mod ToldIsSold
