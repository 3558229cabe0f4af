-- Lemmas on fields, columns, lines, members, items, files and expiries.
pub mod ColumnLemmas
pub mod Common
pub mod CsvLemmas
pub mod EntryLemmas
pub mod FileLemmas
pub mod JsonLemmas
pub mod MemberLemmas
pub mod Outcomes
pub mod RowLemmas
pub mod UsualRowLemmas
