-- What a host is answered of texts.
pub mod Texts
