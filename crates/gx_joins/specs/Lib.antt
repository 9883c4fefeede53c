pub mod HashJoin
pub mod Pairs
pub mod JoinedMeaning
