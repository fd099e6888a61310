-- `symbol_writer::place_bits` meets its contract: the word is encoded, stuffed and interleaved. Assumes nothing.
use native.Mathlib.Omega.{arith}
use Rattle.lent.proofs.Work.{gross_areas, bits_inside}
use Rattle.symbol_writer.proofs.Writing.{stuffed_long, bits_placed}
use Rattle.symbol_writer.proofs.place_bits.Goals as goal

pub overflow_add-seam : goal.overflow_add-seam
overflow_add-seam c =
    let room = c.requires.0 in
    omega (arith, bits_inside room, gross_areas room, room.sizes.inside)

pub overflow_add-end : goal.overflow_add-end
overflow_add-end c =
    let room = c.requires.0 in
    omega (arith, bits_inside room)

pub slice_bounds-stuff-count : goal.slice_bounds-stuff-count
slice_bounds-stuff-count c =
    let room = c.requires.0 in
    omega (arith, gross_areas room, room.sizes.inside)

pub slice_bounds-stuff-start : goal.slice_bounds-stuff-start
slice_bounds-stuff-start c =
    let room = c.requires.0 in
    omega (arith, gross_areas room, room.sizes.inside)

pub slice_bounds-stuff-end : goal.slice_bounds-stuff-end
slice_bounds-stuff-end c =
    omega (arith, bits_inside c.requires.0, c.encode.ensures.changed.long)

pub slice_bounds-shuffle-end : goal.slice_bounds-shuffle-end
slice_bounds-shuffle-end c =
    let word = c.encode in
    let long = stuffed_long c.args.work.now c.requires.0 word.new.work word.ensures in
    omega (arith, bits_inside c.requires.0, long c.stuff.new.out c.stuff.ensures)

pub returns : goal.returns
returns c =
    let word = c.encode in
    let stuff = c.stuff in
    bits_placed c.args.work.now c.requires.0 word.new.work word.ensures stuff.new.out stuff.ensures
    c.shuffle.ensures.0
