-- The definitions that the contract of `bench` cites.
pub mod Figures
