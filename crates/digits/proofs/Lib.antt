pub mod Again
pub mod Pairs
pub mod Written
pub mod Zeros
