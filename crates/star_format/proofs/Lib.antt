mod Numbers
mod PieceTurns
