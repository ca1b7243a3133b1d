mod Gained
pub mod Heeded
pub mod Reread
mod Solids
