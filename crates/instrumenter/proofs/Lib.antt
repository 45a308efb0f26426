mod Checks
mod Lists
mod CheckRanges
mod ProgramRanges
