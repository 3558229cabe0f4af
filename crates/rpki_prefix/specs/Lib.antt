-- Definitions: prefixes of one family, their order, their texts, and maximum lengths.
pub mod MaxLen
pub mod Nesting
pub mod Order
pub mod OrderLaws
pub mod PrefixText
pub mod Values
