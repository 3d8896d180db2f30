mod BlockFaults
mod ComponentsAreRead
mod LinesOfComponents
mod OddParity
mod SumsOfKeys
