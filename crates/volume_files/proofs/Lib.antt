mod Absent
mod Names
mod DumpRows
mod LogMagic
