-- The definitions that the contracts of `desk` cite.
pub mod Texts
pub mod Desk
pub mod Cut
