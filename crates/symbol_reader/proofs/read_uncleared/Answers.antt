-- `symbol_reader::read_uncleared` meets its contract: test 7, then the word in the buffer, with its wrong stuffing bits counted. Assumes
-- nothing.
use mathlib.Core.Path.{refl, sym, ◌∙◌}
use native.Mathlib.Omega.{arith}
use lib.ListN.{length}
use Rattle.symbology.specs.Placement.{first_bad_module}
use Rattle.laws.proofs.Search.{found_is, found_not}
use Rattle.call_laws.proofs.Tests.{Legal, legal}
use Rattle.lent.proofs.Work.{legal_sizes}
use Rattle.symbol_reader.proofs.Received.{Sized, sized, bits_fit, bits_lent, same_room, word_received, word_asks, stuffing_told}
use Rattle.symbol_reader.proofs.Reading.{bad_module_lem, good_matrix}
use Rattle.symbol_reader.proofs.read_uncleared.Goals as goal
use Rattle.symbol_reader.proofs.read_uncleared.Goals.{After-areas_for-a, Start}

-- parameters, list and buffers are legal
known : (s : Start) → Legal s.args.p s.args.list.now (length s.args.matrix.now) (length s.args.work.now)
known s = legal s.args.p s.args.list.now (length s.args.matrix.now) (length s.args.work.now) s.requires.0

-- the sizes and the areas
laid : (c : After-areas_for-a)
    → let a = c.args in
    Sized a.p a.list.now (length a.matrix.now) a.work.now a.s c.areas_for-a.result
laid c =
    let a = c.args in
    sized a.p a.list.now (length a.matrix.now) a.work.now (known (goal.at.After-areas_for-a c).Start) c.requires.1 c.areas_for-a.ensures

pub returns-in-Some : goal.returns-in-Some
returns-in-Some c =
    let a = c.args in
    let m = a.matrix.now in
    let bad =
    found_is (length m) (first_bad_module a.p.colours m) c.in-Some.bad (sym c.first_bad_module.ensures ∙ c.in-Some.is) in
    bad_module_lem a.p a.list.now m (length a.work.now) a.room a.message.now a.places.now c.requires.0 (sym bad.0) bad.1 c.from.ensures

pub areas_for-a-requires : goal.areas_for-a-requires
areas_for-a-requires c =
    legal_sizes c.args.p c.args.list.now (known (goal.at.areas_for-a-requires c).Start).symbol c.requires.1

pub overflow_add-seam : goal.overflow_add-seam
overflow_add-seam c =
    let k = laid (goal.at.overflow_add-seam c).After-areas_for-a in
    omega (arith, bits_fit k, k.room.sizes.inside)

pub overflow_add-end : goal.overflow_add-end
overflow_add-end c =
    omega (arith, bits_fit (laid (goal.at.overflow_add-end c).After-areas_for-a), c.well_formed.1.1.1.0.0)

pub slice_bounds-receive-end : goal.slice_bounds-receive-end
slice_bounds-receive-end c =
    bits_fit (laid (goal.at.slice_bounds-receive-end c).After-areas_for-a)

pub receive-requires : goal.receive-requires
receive-requires c =
    bits_lent (laid (goal.at.receive-requires c).After-areas_for-a)

pub slice_bounds-wrong_stuffing-count : goal.slice_bounds-wrong_stuffing-count
slice_bounds-wrong_stuffing-count c =
    omega (arith, (laid (goal.at.slice_bounds-wrong_stuffing-count c).After-areas_for-a).room.sizes.inside)

pub slice_bounds-wrong_stuffing-start : goal.slice_bounds-wrong_stuffing-start
slice_bounds-wrong_stuffing-start c =
    omega (arith, (laid (goal.at.slice_bounds-wrong_stuffing-start c).After-areas_for-a).room.sizes.inside)

pub slice_bounds-wrong_stuffing-end : goal.slice_bounds-wrong_stuffing-end
slice_bounds-wrong_stuffing-end c =
    let k = laid (goal.at.slice_bounds-wrong_stuffing-end c).After-areas_for-a in
    omega (arith, bits_fit k, same_room k c.args.matrix.now c.receive.ensures)

pub from_received-requires : goal.from_received-requires
from_received-requires c =
    word_asks (laid (goal.at.from_received-requires c).After-areas_for-a) c.args.matrix.now c.receive.ensures

pub returns : goal.returns
returns c =
    let a = c.args in
    let m = a.matrix.now in
    let k = laid (goal.at.returns c).After-areas_for-a in
    good_matrix a.p a.list.now m (length a.work.now) a.room a.message.now a.places.now c.requires.0
    refl (found_not (length m) (first_bad_module a.p.colours m) (sym c.first_bad_module.ensures ∙ c.in_default.is)) k.sizes_are
    (word_received k a.matrix.now c.receive.ensures)
    (stuffing_told k a.matrix.now c.receive.ensures c.wrong_stuffing.ensures) c.from_received.ensures
