pub mod Adding
pub mod Season
