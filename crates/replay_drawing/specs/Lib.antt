pub mod Draw
