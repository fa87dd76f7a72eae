mod Crosses
mod Elements
mod Heap
mod Memory
mod Places
mod Rings
mod Steps
