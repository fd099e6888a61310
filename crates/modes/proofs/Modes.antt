-- The definitions of Tables 13 to 16, under one name for the functions that open them.
-- Assumes nothing.
pub use Rattle.symbology.specs.Modes.{character_count, direct_switches, more_switches, switch_of}
