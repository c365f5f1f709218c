pub mod Indexes
pub mod Gifts
pub mod Taking
