mod HexText
mod WritesInTurn
mod ReadsInTurn
