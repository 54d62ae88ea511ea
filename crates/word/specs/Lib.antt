pub mod Words
pub mod Choice
pub mod Lists
pub mod Numbers
pub mod Answers
pub mod Refusals
pub mod Parse
