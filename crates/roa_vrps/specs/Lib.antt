-- Definitions: fields of lines, columns, members of JSON items, byte order marks, and the VRPs of files and their
-- expiries.
pub mod Columns
pub mod Csv
pub mod Entries
pub mod ExpiryFiles
pub mod Files
pub mod JsonFiles
pub mod Marks
pub mod Members
pub mod Rows
pub mod UsualRows
