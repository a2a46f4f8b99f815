pub mod DrawSizes
pub mod Tries
pub mod ReadyConnections
pub mod ConnectionExamples
