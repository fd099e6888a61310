-- Theorems about the definitions of the calls, in the order in which they stand on one another.
pub mod Tests
pub mod Stages
pub mod Answers
pub mod Refusals
pub mod Places
pub mod RoundTrip
pub mod Mending
-- computed: the laws for teaching
pub mod TeachingExamples
