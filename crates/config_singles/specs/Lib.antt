-- What the searches find.
pub mod Singles
