pub mod Calls
pub mod Determination
pub mod LateJoiners
pub mod Useless
pub mod Listings
pub mod RoundTrips
pub mod UselessWriter
pub mod Missing
