pub mod FixedVec
