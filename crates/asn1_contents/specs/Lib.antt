pub mod ContentsTypes
pub mod Dates
pub mod DateTimes
pub mod Digits
pub mod Reals
pub mod RelativeOids
pub mod TimesOfDay
pub mod UniversalStrings
