pub mod CutRows
pub mod GetRows
pub mod ImageRows
pub mod OperationRows
pub mod PlaceRows
pub mod PutRows
