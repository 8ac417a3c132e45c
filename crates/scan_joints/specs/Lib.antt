pub mod States
pub mod JointTable
