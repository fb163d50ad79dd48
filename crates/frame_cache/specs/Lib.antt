pub mod CacheData
pub mod Cached
pub mod Order
pub mod RecentData
pub mod Recent
pub mod Slots
