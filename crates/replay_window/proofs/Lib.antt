mod ShiftLemmas
mod WindowLemmas
