mod ResolvingLemmas
mod FilteredLemmas
mod DirectLemmas
