-- That each answer of the allocator serves the request.
pub mod Laws
