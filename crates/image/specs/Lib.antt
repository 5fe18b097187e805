-- The definitions that the contracts of `image` cite.
pub mod Types
pub mod Write
pub mod Read
pub mod Laws
