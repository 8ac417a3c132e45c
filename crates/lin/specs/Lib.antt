pub mod Lin
