mod Found
mod Tallies
mod Unlinked
mod Causes
mod Ways
mod AnyTests
