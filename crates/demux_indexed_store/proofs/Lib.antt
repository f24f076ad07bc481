pub mod Laws
pub mod Before
