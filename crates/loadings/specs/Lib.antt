pub mod Loadings
pub mod Goods
pub mod Laws
