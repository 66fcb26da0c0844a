-- The definition of the code that is emitted, and programs with their code by hand.
pub mod Bodies
pub mod BodyRows
pub mod ConstructRows
pub mod Emission
pub mod Emits
pub mod Laws
pub mod Lines
pub mod LoopRows
pub mod Programs
pub mod Repeats
pub mod Scope
pub mod StatementRows
pub mod Statements
pub mod Tables
pub mod Texts
pub mod ThreadRows
pub mod ValueRows
