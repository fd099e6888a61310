mod Items
mod Bytes
mod Numbers
mod Backwards
