pub mod Compared
pub mod Expanded
pub mod OneOutcome
pub mod SomeOutcome
pub mod Lengths
pub mod Gotten
pub mod Stopping
pub mod OutRows
pub mod OneReuse
pub mod ReusesStopping
pub mod ReusesGotten
pub mod HeldOver
pub mod NotPut
pub mod ReusesLengths
pub mod SomeTaken
pub mod OneComes
pub mod FitReuse
pub mod OneFile
mod OwnPuts
mod AllPuts
pub mod Past
pub mod OneBatch
pub mod OneYields
pub mod NeverNothing
pub mod BatchesStopping
pub mod SameWorkers
