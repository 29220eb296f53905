-- What only the code needs: what its functions hand each other. No promise rests on it, and who reads the promises can pass it by.
-- Assumes nothing.
pub mod Entries
pub mod Filling
pub mod States
pub mod Entrywise
