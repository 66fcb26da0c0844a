mod Judging
mod KindLists
mod ReadAgain
mod Saying
mod Spoken
pub mod Verdicts
