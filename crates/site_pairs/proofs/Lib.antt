pub mod ItemPairs
pub mod ShortWords
pub mod Orders
pub mod FirstPage
pub mod EditValues
pub mod WordKeys
pub mod ChangedWords
pub mod WordsOfChanges
