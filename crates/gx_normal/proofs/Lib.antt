pub mod ParameterScopes
pub mod SwitchLemmas
pub mod MakingLemmas
pub mod NumberedConstructs
pub mod NumberedContexts
pub mod NumberedVariables
pub mod WellFormedCores
pub mod PublicLaws
