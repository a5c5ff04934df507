mod Differences
mod NextAnswers
mod Readings
