pub mod ListingReply
