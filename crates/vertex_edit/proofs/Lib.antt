mod Carries
mod Fullest
mod Edits
mod Shifted
mod Rounded
