-- The definitions that the contracts of `ranges` cite.
pub mod Decides
pub mod Row
pub mod Fit
pub mod Set
pub mod Owner
pub mod Media
pub mod Reset
pub mod Laws
pub mod Exact
