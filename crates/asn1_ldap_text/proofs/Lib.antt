pub mod Appending
pub mod FilterTexts
pub mod Printable
pub mod PrintableFilters
pub mod PrintableMessages
pub mod PrintableOperations
pub mod ReadingBack
