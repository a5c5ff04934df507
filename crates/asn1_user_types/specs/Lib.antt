pub mod ParcelAlternatives
