-- What is lent in the examples (`Lent`), an example of every answer, that the memories of the examples are sound (`Soundness`), and that what is
-- said to be lent is enough (`Enough`).
pub mod Lent
pub mod HvStart
pub mod Soundness
pub mod HvCheck
pub mod Enough
