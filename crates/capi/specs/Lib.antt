pub mod Signed
pub mod Put
