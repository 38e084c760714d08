mod PlainLemmas
mod WalkLemmas
mod TagLemmas
mod DirectionLemmas
