-- What a list is while it is written from the front, why the words written are the picture of a fresh list, and what follows for the call.
pub mod Drawing
pub mod Fresh
pub mod Call
