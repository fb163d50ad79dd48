mod AskedFrames
mod Covers
mod HandleTypes
mod Tables
mod ToldRows
