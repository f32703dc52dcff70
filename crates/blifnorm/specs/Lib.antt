pub mod Norm
