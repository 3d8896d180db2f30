mod Added
mod AnyFile
mod Parts
mod Said
mod Told
