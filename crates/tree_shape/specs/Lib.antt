pub mod NodeData
pub mod Nodes
pub mod Changes
