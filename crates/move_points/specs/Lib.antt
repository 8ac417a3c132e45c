pub mod CutPoints
