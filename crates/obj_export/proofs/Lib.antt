mod Turned
mod Millionths
mod Pieces
mod Counting
mod Walking
