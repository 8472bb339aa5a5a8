pub mod Fair
pub mod Next
pub mod Settings
pub mod Turn
