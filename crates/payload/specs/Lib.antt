-- The definitions that the contracts of `payload` cite.
pub mod Payload
pub mod Found
pub mod Exact
