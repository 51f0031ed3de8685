mod Charged
mod Stacked
mod Refusals
