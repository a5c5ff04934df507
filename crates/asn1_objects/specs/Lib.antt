pub mod ObjectPlaces
