pub mod Image
pub mod CodeTables
