pub mod Rows
pub mod Replies
