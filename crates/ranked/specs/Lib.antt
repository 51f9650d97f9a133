pub mod Order
pub mod Items
