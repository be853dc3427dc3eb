-- what a register shows, and how each event moves it
pub mod View
pub mod Equal
-- what the numbers stand for, and the changes that stand
pub mod Numbers
pub mod Standing
pub mod Replay
-- what holds between a history and what a register shows, and demand 3 from it
pub mod Invariant
pub mod ViewDemand
-- what an image shows, and what an entry finds in it
pub mod Proper
pub mod Found
pub mod Shows
-- what each call comes to, and how it moves what its image shows
pub mod Passed
pub mod Steps
-- demand 3 of an image, along every run, what is read of it, and document 01's example
pub mod ImageDemand
pub mod Reached
pub mod Readings
pub mod Played
