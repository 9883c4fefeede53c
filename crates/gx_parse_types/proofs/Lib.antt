pub mod BindingPhrases
pub mod BoundPhrases
pub mod CastsPhrases
pub mod KeysPhrases
pub mod NodeTestsPhrases
pub mod TypesPhrases
pub mod TypeswitchPhrases
