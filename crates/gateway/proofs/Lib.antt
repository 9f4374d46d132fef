mod Buffers
mod Runs
