pub mod RunsOfLines
pub mod ShownTexts
pub mod CodesAreTakenOff
pub mod HtmlShowsText
