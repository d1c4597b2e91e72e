-- The laws of what is offered (`Offers`) and of what may be given back (`Returns`).
pub mod Offers
pub mod Returns
