-- `symbol_writer::write_uncleared` meets its contract: test 6, and the matrix of a stream that fits. Assumes nothing.
use native.Mathlib.Omega.{arith}
use mathlib.Core.Path.{refl}
use lib.ListN.{length}
use Rattle.symbology.specs.Stream.{stream_of}
use Rattle.call_laws.proofs.Tests.{Legal, legal}
use Rattle.lent.proofs.Work.{legal_sizes}
use Rattle.symbol_writer.proofs.Writing.{net_few, no_room_lem, fits, room_enough}
use Rattle.symbol_writer.proofs.write_uncleared.Goals as goal
use Rattle.symbol_writer.proofs.write_uncleared.Goals.{Start}

-- parameters, list and buffers are legal
known : (s : Start) → Legal s.args.p s.args.list.now (length s.args.matrix.now) (length s.args.work.now)
known s = legal s.args.p s.args.list.now (length s.args.matrix.now) (length s.args.work.now) s.requires.0

pub exceeds_net-requires : goal.exceeds_net-requires
exceeds_net-requires c =
    omega (arith, net_few (legal_sizes c.args.p c.args.list.now (known (goal.at.exceeds_net-requires c).Start).symbol c.requires.1))

pub returns-then-exceeds_net : goal.returns-then-exceeds_net
returns-then-exceeds_net c =
    let a = c.args in
    no_room_lem a.p a.list.now (stream_of a.message.now) a.matrix.now (length a.work.now) c.requires.0
    c.requires.1 c.exceeds_net.ensures c.if-exceeds_net.true refl

pub store_matrix-requires : goal.store_matrix-requires
store_matrix-requires c =
    let a = c.args in
    let few =
    fits a.p a.list.now (stream_of a.message.now) a.matrix.now (length a.work.now) c.requires.0
    c.requires.1 c.exceeds_net.ensures c.if-exceeds_net.false in
    (c.requires.0, c.requires.1, few)

pub returns : goal.returns
returns c =
    let a = c.args in
    room_enough a.p a.list.now (stream_of a.message.now) a.matrix.now (length a.work.now) c.requires.0
    c.requires.1 c.exceeds_net.ensures c.if-exceeds_net.false c.store_matrix.ensures refl
