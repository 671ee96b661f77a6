pub mod inner
pub mod ShortRequests
pub mod Scripts
pub mod KeptLists
