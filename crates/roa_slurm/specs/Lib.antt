-- Definitions: objects of SLURM files, their members, items of lists, files, and VRPs after filters and assertions.
pub mod Applied
pub mod Entries
pub mod Lists
pub mod Objects
pub mod Parts
pub mod SlurmFiles
pub mod Steps
