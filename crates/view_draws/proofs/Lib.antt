pub mod Parts
pub mod Chunks
pub mod Lefts
pub mod DrawingSteps
pub mod WholeDraws
pub mod LaterReads
