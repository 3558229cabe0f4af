-- Definitions of the lines of routes and of their answers by VRPs. Other definitions describe the reading of files, the
-- bytes that runs write for their inputs, and the lines that a check looks for in these bytes.
pub mod Answers
pub mod Begun
pub mod Checks
pub mod Explanations
pub mod FileResult
pub mod Inputs
pub mod Outcomes
pub mod Runs
