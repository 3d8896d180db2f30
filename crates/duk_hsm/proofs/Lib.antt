mod AskedNumbers
mod KeySets
mod RepliesOfGroups
mod WrittenPlaces
