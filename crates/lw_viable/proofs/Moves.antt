-- MovesBy at the places of a program: they are exact, by the forms of instructions.
pub mod Giving
pub mod Doing
pub mod Marking
pub mod Beside
pub mod Calling
pub mod Entering
pub mod Saying
pub mod Exact
pub mod Moved
pub mod Moving
pub mod Finishing
