-- A configuration where it lies. `Table` says what the words of a table mean, and `View` joins tables and bytes.
pub mod Table
pub mod View
