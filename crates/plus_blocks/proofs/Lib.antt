pub mod CivilDates
pub mod Clean
pub mod CleanDate
pub mod ItemLines
pub mod WholeLines
