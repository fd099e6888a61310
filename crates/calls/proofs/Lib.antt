-- Document 01's points, computed: they are about symbols and calls, and stand in one list.
pub mod Points
