pub mod Networks
