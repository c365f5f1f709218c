mod Entries
mod GoodHeaps
mod HeapGrowth
mod KnownAnswers
mod Slots
mod Tops
