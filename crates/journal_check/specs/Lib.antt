pub mod Telling
pub mod TextFlaws
pub mod Passing
