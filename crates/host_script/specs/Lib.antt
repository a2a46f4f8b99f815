pub mod Number
pub mod Script
pub mod ParsedLine
pub mod Printed
pub mod Lines
pub mod LineExamples
