mod Tagged
mod Rising
mod Joined
mod AllOf
