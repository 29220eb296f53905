-- What the three demands and the statements beside them say of a call of each kind, as the contract of a function that makes it.
pub mod Lent
pub mod Meets
