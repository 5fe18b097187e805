-- The laws that the proofs of `params` cite.
pub mod Taking
pub mod Lists
pub mod Putting
pub mod Shapes
pub mod ExactKinds
pub mod ExactShapes
pub mod ExactSet
pub mod ExactColumns
