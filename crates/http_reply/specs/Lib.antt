pub mod ReplyBytes
