mod Steps
mod Searches
