pub mod Bits
pub mod Hex
pub mod HexText
pub mod Shown
