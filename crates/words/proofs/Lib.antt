pub mod Cuts
pub mod Decimals
pub mod Parts
pub mod Spaced
