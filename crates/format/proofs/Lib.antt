pub mod Frames
pub mod Stores
pub mod Members
pub mod Codec
pub mod Decoding
