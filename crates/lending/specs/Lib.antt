-- What the contracts cite.
pub mod Lending
