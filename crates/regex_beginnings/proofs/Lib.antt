pub mod AnswersFollow
