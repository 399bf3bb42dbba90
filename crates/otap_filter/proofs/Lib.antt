pub mod Answered
pub mod FitSets
pub mod Fresh
pub mod Keeping
pub mod OneAnswer
pub mod SentGrown
pub mod SentSets
pub mod Steps
