pub mod ByteOrders
pub mod PostNames
