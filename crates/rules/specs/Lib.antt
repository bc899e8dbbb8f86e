-- The definitions of document 01, a file a section, in its order, with what requests of 02 add. README.md lists, under "What a reader has to believe",
-- these files and the few of other crates that contracts rest on; all else is proved against them.
pub mod Lists
pub mod Answer
pub mod Records
pub mod Ranges
pub mod Zones
pub mod Machine
pub mod Live
pub mod Marks
pub mod Classes
pub mod FirstMarks
pub mod Labels
pub mod File
pub mod BarsFile
pub mod Text
pub mod Refusals
pub mod Calls
pub mod Program
pub mod Claims
