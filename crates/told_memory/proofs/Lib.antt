pub mod AskedWords
pub mod ToldSteps
pub mod ToldValues
pub mod ToldWords
