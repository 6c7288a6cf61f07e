mod MeterSteps
mod MeterCalls
mod Held
mod Records
pub mod ImageCalls
mod Words
pub mod MeterRises
pub mod NodeWords
