pub mod SessionFields
pub mod Sessions
pub mod States
