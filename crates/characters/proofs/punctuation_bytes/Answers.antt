-- `characters::punctuation_bytes` meets its contract. Assumes nothing.
use mathlib.Core.Path.{refl, ◌∙◌}
use Rattle.symbology.specs.Characters.{punctuation_characters}
use Rattle.characters.proofs.Columns.{column, is_ascii}
use Rattle.characters.proofs.punctuation_bytes.Goals as goal

pub returns : goal.returns
unfolding punctuation_characters is_ascii
returns c = c.character.ensures ∙ column _ refl c.args.v
