pub mod Answers
pub mod Examples
pub mod Heading
pub mod Tables
pub mod Texts
pub mod Stands
