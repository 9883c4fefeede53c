mod SeenMeanings
mod Distinct
mod KindLemmas
mod NameSets
mod FoundUses
