pub mod Steps
pub mod Worked
pub mod Taken
pub mod Only
pub mod Skipped
