-- `Places` has how the machines' words stay apart, `Zones` how a write to one changes what they mean, `Serving` when a request is served,
-- `Beginning` what memories mean at the start, and `Sizes` that there are sound memories of every size.
pub mod Places
pub mod Zones
pub mod Serving
pub mod Beginning
pub mod Sizes
