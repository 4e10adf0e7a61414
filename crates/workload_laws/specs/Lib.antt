pub mod Asked
pub mod WorkloadLaws
