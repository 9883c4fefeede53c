pub mod TermText
pub mod OperatorNames
pub mod OperatorFields
pub mod LiteralText
pub mod NodeTestText
pub mod PlanText
pub mod Printing
