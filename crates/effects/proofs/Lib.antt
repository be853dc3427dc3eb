-- what is read of an image after each change, as statements
pub mod Seen
-- the stretches that no change writes to, where the changes write, and that what stands is read as it was
pub mod Spares
pub mod Clear
pub mod Read
-- the parts that changes are made of
pub mod Journalled
pub mod Counted
pub mod Stored
-- the changes: a status and the journal, the next number, a blank image
pub mod Marked
pub mod Numbered
pub mod Blanked
-- and that each of them leaves an image well formed
pub mod StayFormed
pub mod NumberedFormed
pub mod BlankedFormed
