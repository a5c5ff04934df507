pub mod ArcsOfOctets
pub mod CharactersOfOctets
pub mod Days
pub mod DayTimes
pub mod NumbersOfArcs
pub mod RealParts
