pub mod BaseAxes
pub mod Carry
pub mod Coordinates
pub mod Fractions
pub mod SurfaceNumbers
pub mod Units
