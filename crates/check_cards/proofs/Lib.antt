pub mod CardWalk
