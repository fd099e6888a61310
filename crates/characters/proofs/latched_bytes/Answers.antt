-- `characters::latched_bytes` meets its contract. Assumes nothing.
use mathlib.Core.Path.{refl, ◌∙◌}
use Rattle.symbology.specs.Ranges.{tabulate}
use Rattle.symbology.specs.Characters.{upper_characters, lower_characters, numeric_characters, alphanumeric_characters}
use Rattle.symbology.specs.Modes.{characters_of}
use Rattle.characters.proofs.Columns.{column, is_ascii}
use Rattle.characters.proofs.latched_bytes.Goals as goal

pub returns-in-Upper : goal.returns-in-Upper
unfolding characters_of upper_characters tabulate is_ascii
returns-in-Upper c =
    let v = c.args.v in
    rw c.in-Upper.is (c.character.ensures ∙ column _ refl v)

pub returns-in-Lower : goal.returns-in-Lower
unfolding characters_of lower_characters tabulate is_ascii
returns-in-Lower c =
    let v = c.args.v in
    rw c.in-Lower.is (c.character-in-Lower.ensures ∙ column _ refl v)

pub returns-in-Numeric : goal.returns-in-Numeric
unfolding characters_of numeric_characters tabulate is_ascii
returns-in-Numeric c =
    let v = c.args.v in
    rw c.in-Numeric.is (c.character-in-Numeric.ensures ∙ column _ refl v)

pub returns-in-Alphanumeric : goal.returns-in-Alphanumeric
unfolding characters_of alphanumeric_characters tabulate is_ascii
returns-in-Alphanumeric c =
    let v = c.args.v in
    rw c.in-Alphanumeric.is (c.character-in-Alphanumeric.ensures ∙ column _ refl v)
