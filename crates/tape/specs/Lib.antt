-- The definitions that the contracts of `tape` cite.
pub mod Write
pub mod Words
pub mod Steps
pub mod Laws
