mod AcceptedLemmas
mod AnswerLemmas
mod EmptyLemmas
mod ForgottenLemmas
mod GrownLemmas
mod HeldLemmas
mod ListLemmas
mod ReadyLemmas
mod RefutedLemmas
mod RestLemmas
mod RootLemmas
mod SearchedLemmas
mod StandLemmas
mod ToldLemmas
pub mod ValueLemmas
mod LetGoLemmas
