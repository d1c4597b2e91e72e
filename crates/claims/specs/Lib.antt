-- Whether memories fit (`Fits`), what an allocation would give (`Offers`), and what may be given back or changed (`Returns`).
pub mod Fits
pub mod Offers
pub mod Returns
