pub mod Even
pub mod Plans
