pub mod PlayingPart
