pub mod Cast
pub mod Comparison
pub mod EffectiveBoolean
pub mod Fit
pub mod Laws
pub mod WrittenNumber
pub mod EqualValues
pub mod JoinKey
