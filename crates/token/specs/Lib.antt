-- The definitions that the contracts of `token` cite.
pub mod Bytes
pub mod Token
pub mod Write
pub mod Laws
pub mod Exact
