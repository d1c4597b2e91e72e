-- What it is to serve a request without the frames' words.
pub mod Blind
