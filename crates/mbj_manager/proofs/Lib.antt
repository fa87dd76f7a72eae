mod Resting
mod JobRounds
mod QueuedOf
pub mod RingCourses
mod Finishing
mod Joining
mod Listing
mod Numbering
mod Seeing
mod KindLines
mod Restoring
mod Tying
mod Moving
mod Advancing
mod Reaching
mod Flushing
pub mod PendingStages
mod Unchanged
mod Counting
pub mod CallLaws
mod Lanes
mod Steps
mod Changing
mod Times
mod Leaving
mod StagesLeft
mod Standing
mod Running
mod Stepping
mod CourseEnds
mod BetweenCalls
mod GivingBack
mod Adding
mod Popping
mod Shrinking
mod JobStages
mod FlushRuns
mod CallsKeep
pub mod Counted
mod JobLaws
mod Entries
mod JobSteps
mod Turns
mod Submissions
mod Writing
pub mod NoneOwed
