mod ByteTable
mod EightBytes
mod OneByte
