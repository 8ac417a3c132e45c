pub mod Circle
pub mod Left
