-- The definitions of `inverse`.
pub mod WayBack
pub mod PatternIndex
pub mod GoesBack
