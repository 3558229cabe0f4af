pub mod Families
pub mod FamilyText
pub mod PrefixBlocks
