pub mod Upper
