mod Lookups
mod Moves
mod Fillings
