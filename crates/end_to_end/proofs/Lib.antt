-- `Lives` has how memories go on living, and `EndToEnd` what holds as long as they live.
pub mod Lives
pub mod EndToEnd
