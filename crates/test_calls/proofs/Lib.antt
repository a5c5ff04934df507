pub mod Corners
pub mod Menus
