-- The definitions that the contracts of `way_back` cite.
pub mod WayBack
