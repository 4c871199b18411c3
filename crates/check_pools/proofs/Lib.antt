pub mod PoolWalk
