mod Spelling
mod Writing
