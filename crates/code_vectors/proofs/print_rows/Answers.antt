-- `code_vectors::print_rows` meets what it calls: the areas of the known sizes lie in the buffer, with A too, which has all three rows.
-- Assumes nothing.
use mathlib.Core.Path.{◌≡◌, ◌∙◌}
use Prim.Native.Nat.{ℕ}
use native.Mathlib.Omega.{arith}
use Rattle.lent.specs.Work.{CodeSizes, RoomFor, areas_of}
use Rattle.lent.proofs.Work.{laid_as, room_laid, gross_areas, checks_areas}
use Rattle.symbology.specs.declared.Sizes.{Sizes}
use Rattle.lent.specs.declared.Areas.{Areas}
use Rattle.code_vectors.proofs.print_rows.Goals as goal

-- The work buffer is long enough for such sizes.
room : {s : Sizes} {a : Areas} {n : ℕ} → CodeSizes s → s.work ≡ 53964 → a ≡ areas_of s → n ≡ 53964 → RoomFor s a n
room sizes work areas long =
    record {
      sizes = sizes;
      areas_are = areas;
      enough = omega (arith, work, long);
    }

pub build-requires : goal.build-requires
build-requires g c =
    let sizes = c.known_sizes.ensures in
    let r = room sizes.0 sizes.1 c.areas_for-a.ensures c.requires in
    (room_laid r, gross_areas r ∙ sizes.2, checks_areas r ∙ sizes.3, omega arith)

pub print_row-requires : goal.print_row-requires
print_row-requires g c =
    let sizes = c.known_sizes.ensures in
    let r = room sizes.0 sizes.1 c.areas_for-a.ensures c.requires in
    (laid_as (room_laid r) c.build.ensures.built.changed.long, omega (arith, checks_areas r, sizes.3))
