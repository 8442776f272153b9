pub mod Counting
pub mod MappedEntries
pub mod NumberSeats
pub mod OrderedLists
pub mod Seating
