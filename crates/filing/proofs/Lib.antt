mod Writes
mod Left
mod Filed
mod Posted
