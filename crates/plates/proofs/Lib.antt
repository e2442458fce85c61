mod LineParts
mod Fronts
mod Whole
mod Outcomes
