pub mod Bytes
pub mod Cut
pub mod Pieces
pub mod TokenList
pub mod OneToken
pub mod LineTexts
