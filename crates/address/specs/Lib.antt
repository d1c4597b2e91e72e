-- What the contracts say. `Pages` has ranges of pages, and `Regions` the regions and their translation.
pub mod Pages
pub mod Regions
