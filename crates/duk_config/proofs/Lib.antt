mod NamesOfTables
mod ArrayValues
mod EntriesInTurn
mod KeysInOrder
mod KeysAreLoaded
mod OneConfiguration
mod OneFault
