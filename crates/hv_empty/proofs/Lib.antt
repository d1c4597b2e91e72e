-- What is told of a machine is what the step tests.
pub mod Laws
