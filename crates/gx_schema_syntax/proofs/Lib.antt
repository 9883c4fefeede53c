pub mod ParticleLemmas
