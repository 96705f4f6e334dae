-- Numbers from their own bytes, for the crates above. Assumes nothing.
pub use Rattle.wire.specs.Items.{of_two_two, of_four_four}
