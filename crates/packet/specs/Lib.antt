-- The definitions that the contracts of `packet` cite.
pub mod Envelope
pub mod Laws
pub mod Exact
