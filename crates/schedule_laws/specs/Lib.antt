pub mod EnoughLaws
pub mod Laws
pub mod ReportLaws
pub mod Resting
