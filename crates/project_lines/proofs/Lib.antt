mod Options
mod Parents
mod Fronts
mod Numbers
mod Cuts
mod LineLaws
mod Taking
mod Summaries
pub mod Exact
