pub mod Edits
pub mod ChangeKeys
pub mod KeyLaws
pub mod Laws
pub mod EditExamples
pub mod ShortReplacements
pub mod PairsInOrder
