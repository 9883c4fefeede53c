mod UsesLemmas
mod ReachingLemmas
