pub mod LeavesMade
pub mod BranchesMade
pub mod RootsMade
pub mod RowsMade
pub mod LevelsMade
pub mod FullTrees
