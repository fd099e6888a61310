pub mod Changes
pub mod Buffer
pub mod Work
