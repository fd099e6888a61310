-- `symbol_writer::store_matrix` meets its contract: net bits, C bits and the matrix are stored, one after the other. Assumes nothing.
use Prim.Native.Nat.{◌+◌, ◌≤◌}
use mathlib.Core.Path.{ap, ◌∙◌}
use native.Mathlib.Omega.{arith}
use lib.ListN.{length}
use Rattle.symbology.specs.declared.Sizes.{Sizes}
use Rattle.symbology.specs.Stream.{stream_of}
use Rattle.laws.proofs.ByteMode.{chosen_bits}
use Rattle.call_laws.proofs.Tests.{Legal, legal}
use Rattle.layout.proofs.Legal.{sized_symbol}
use Rattle.lent.specs.Work.{RoomFor}
use Rattle.lent.proofs.Buffer.{length_lent}
use Rattle.lent.proofs.Work.{legal_sizes, legal_room, room_laid, room_as, net_areas, bits_inside}
use Rattle.symbol_writer.proofs.Writing.{stored_bits, matrix_stored}
use Rattle.symbol_writer.proofs.store_matrix.Goals as goal
use Rattle.symbol_writer.proofs.store_matrix.Goals.{After-areas_for-a, After-place_bits, Start}

-- parameters, list and buffers are legal
known : (s : Start) → Legal s.args.p s.args.list.now (length s.args.matrix.now) (length s.args.work.now)
known s = legal s.args.p s.args.list.now (length s.args.matrix.now) (length s.args.work.now) s.requires.0

-- the work buffer is long enough for the sizes, and has these areas
sized : (c : After-areas_for-a)
    → let args = c.args in
    RoomFor args.s c.areas_for-a.result (length args.work.now)
sized c =
    legal_room c.args.p c.args.list.now (known (goal.at.After-areas_for-a c).Start).symbol
    (known (goal.at.After-areas_for-a c).Start).enough c.requires.1 c.areas_for-a.ensures

-- the C bits lie in the buffer that the stages left
inside : (c : After-place_bits)
    → let s = c.args.s in
    c.areas_for-a.result.word + s.capacity ≤ length c.place_bits.new.work
inside c =
    omega (arith, bits_inside (sized (goal.at.After-place_bits c).After-areas_for-a), c.store_net.ensures.long, c.place_bits.ensures.long)

pub areas_for-a-requires : goal.areas_for-a-requires
areas_for-a-requires c =
    legal_sizes c.args.p c.args.list.now (known (goal.at.areas_for-a-requires c).Start).symbol c.requires.1

pub store_net-requires : goal.store_net-requires
store_net-requires c =
    let room = sized (goal.at.store_net-requires c).After-areas_for-a in
    (room_laid room, omega (arith, c.requires.2, net_areas room))

pub place_bits-requires : goal.place_bits-requires
place_bits-requires c =
    let net = c.store_net.ensures in
    (room_as (sized (goal.at.place_bits-requires c).After-areas_for-a) net.long, stored_bits (chosen_bits c.args.message.now) net)

pub overflow_add-end : goal.overflow_add-end
overflow_add-end c =
    let room = sized (goal.at.overflow_add-end c).After-areas_for-a in
    omega (arith, bits_inside room, c.well_formed)

pub slice_bounds-fill-end : goal.slice_bounds-fill-end
slice_bounds-fill-end c =
    inside (goal.at.slice_bounds-fill-end c).After-place_bits

pub fill-requires : goal.fill-requires
fill-requires c =
    let capacity = ap (λ (z : Sizes). z.capacity) c.requires.1 in
    let long =
    length_lent c.place_bits.new.work c.areas_for-a.result.word c.args.s.capacity (inside (goal.at.fill-requires c).After-place_bits) in
    sized_symbol c.args.p c.args.list.now (known (goal.at.fill-requires c).Start).symbol (long ∙ capacity)
    (known (goal.at.fill-requires c).Start).whole

pub returns : goal.returns
returns c =
    matrix_stored c.args.p c.args.list.now (stream_of c.args.message.now) c.requires.1 (sized (goal.at.returns c).After-areas_for-a)
    c.store_net.ensures c.place_bits.ensures c.fill.ensures
