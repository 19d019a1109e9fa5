pub mod FaceLoops
pub mod Places
pub mod Faces
pub mod Lists
