mod Below
mod OneJudgement
mod SomeJudgement
pub mod SoundRestrictions
