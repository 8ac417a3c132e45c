pub mod Reversal
