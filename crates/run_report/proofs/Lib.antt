mod LibraryNames
mod Loops
mod Sets
mod BuiltinNames
mod KeptConditions
