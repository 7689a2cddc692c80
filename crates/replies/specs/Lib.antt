pub mod Input
pub mod Reports
pub mod Laws
