mod Firsts
mod LastPieces
mod Lasts
mod Pieces
mod Replaced
mod Wholes
