pub mod FileCalls
pub mod FileCallLaws
pub mod FileExamples
pub mod FileUses
pub mod Opening
