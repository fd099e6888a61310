pub mod Syndrome
