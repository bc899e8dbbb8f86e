-- Laws that the proofs cite. Each function has its proof in the folder of its name.
pub mod NanBits
pub mod Bytes
pub mod Parts
