mod Counted
mod Extents
