-- The laws of the search: heights (`Heights`), the way down (`Descent`), the way up and down again (`Rise`), and along the frames (`Row`).
pub mod Heights
pub mod Descent
pub mod Rise
pub mod Row
