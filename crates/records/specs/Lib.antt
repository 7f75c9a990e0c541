-- Records of the logger's export: RFC 4180's grammar, its reading byte by byte, and what is promised of them.
pub mod Grammar
pub mod Reading
pub mod Promises
