mod Codes
mod Numbers
