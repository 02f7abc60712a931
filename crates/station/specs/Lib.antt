pub mod Station
pub mod StationLaws
