pub mod Prunable
pub mod PrunableTest
pub mod Files
pub mod Back
pub mod AllFiles
pub mod Fewer
pub mod Runs
pub mod Sound
