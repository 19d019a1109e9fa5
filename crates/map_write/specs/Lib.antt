pub mod Written
pub mod SavedAgain
pub mod OldNumbers
