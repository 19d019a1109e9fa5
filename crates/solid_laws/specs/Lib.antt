pub mod Names
pub mod FaceLoop
pub mod Laws
