-- `characters::mixed_bytes` meets its contract. Assumes nothing.
use Prim.Native.Nat.{◌≤◌}
use mathlib.Core.Path.{refl, ◌∙◌}
use native.Mathlib.Omega.{arith}
use Rattle.symbology.specs.Characters.{mixed_characters}
use Rattle.characters.proofs.Columns.{column_front, past_mixed, is_ascii}
use Rattle.characters.proofs.mixed_bytes.Goals as goal

pub returns-in-0-to-18 : goal.returns-in-0-to-18
unfolding mixed_characters is_ascii
returns-in-0-to-18 c = c.character.ensures ∙ column_front _ _ refl c.args.v (omega arith)

pub returns-in_default : goal.returns-in_default
returns-in_default c =
    let above : 32 ≤ c.args.v = omega arith in
    past_mixed c.args.v above
