mod PlacesOfNumbers
mod OneReading
