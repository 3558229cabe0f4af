-- Lemmas on what readers answer, on lines, on numbers in decimal and on lists of texts.
pub mod Common
pub mod CutLemmas
pub mod DigitLemmas
pub mod LineLemmas
pub mod LookupTables
pub mod NumberLemmas
pub mod NumberTexts
pub mod PrintedListLemmas
pub mod ReadingLemmas
pub mod TextListLemmas
pub mod TrimLemmas
