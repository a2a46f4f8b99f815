pub mod TakenOnes
pub mod RoundsMade
