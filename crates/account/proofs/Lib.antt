-- The check's account on the words accepts exactly the lists.
pub mod AcceptedTests
pub mod AcceptedRun
pub mod AcceptedKeys
pub mod AcceptedWords
pub mod AcceptedPath
pub mod AcceptedChain
pub mod AcceptedCells
pub mod Accepted
pub mod CompleteOrder
pub mod CompletePath
pub mod CompleteCell
pub mod CompleteShown
pub mod Complete
pub mod Following
pub mod Loop
pub mod Tree
