pub mod LoopItems
pub mod FairMeaning
pub mod JoinedStanding
pub mod JoinedPlans
