pub mod Walking
pub mod Making
pub mod Arguments
