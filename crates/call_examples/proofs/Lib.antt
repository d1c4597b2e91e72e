-- Every request has bytes (`Bytes`); lists of one request (`Lists`); and an example of every answer.
pub mod Bytes
pub mod Lists
pub mod HvServe
pub mod HvRun
