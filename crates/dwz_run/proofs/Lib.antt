pub mod FilesWritten
pub mod PlacesTold
pub mod FinishedPlaced
pub mod TwoCompared
pub mod OfBytes
pub mod ExpandedAfter
pub mod OneExpanded
pub mod CommonName
pub mod HeldAfter
pub mod ReusedAfter
pub mod FirstGot
pub mod BatchedAfter
pub mod ChangedFiles
pub mod Outputs
pub mod AllDone
pub mod Stopped
pub mod SameWorkers
pub mod Causes
pub mod Answered
pub mod BatchAnswered
pub mod GotAmong
pub mod ReusedAlone
pub mod Demonstrated
pub mod SecondSame
pub mod ComparedAgain
pub mod SecondReused
pub mod SecondAlone
pub mod FilesReused
pub mod RunGiven
mod JobsDone
mod ByNumber
mod OneJob
mod AllBatched
