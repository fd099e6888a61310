-- `symbol_reader::from_accepted` meets its contract: test 10, then the stream in the net bits. Assumes nothing.
use Prim.Native.Nat.{◌+◌, ◌≤◌}
use mathlib.Core.Path.{refl, sym, ◌∙◌}
use native.Mathlib.Omega.{arith}
use lib.ListN.{length}
use Rattle.symbology.specs.Code.{matrix_for}
use Rattle.lent.specs.Work.{word_in}
use Rattle.lent.proofs.Work.{net_inside, room_laid, net_areas}
use Rattle.coding.specs.Stages.{MessageTaken}
use Rattle.coding.proofs.Stages.{taken_as}
use Rattle.symbol_reader.proofs.Received.{net_lent}
use Rattle.symbol_reader.proofs.Reading.{spare_one_lem, spare_none, spare_told, net_told}
use Rattle.symbol_reader.proofs.from_accepted.Goals as goal
use Rattle.symbol_reader.proofs.from_accepted.Goals.{After-take_message}

-- the message is taken by the message columns of A
taken : (c : After-take_message)
    → let args = c.args in
    let m = c.take_message in
    MessageTaken args.a (matrix_for args.s) args.work.now m.new.work m.result
taken c = taken_as c.requires.1 c.take_message.ensures

-- the net bits lie in the buffer that they were taken into
inside : (c : After-take_message)
    → let args = c.args in
    args.a.message + args.s.net ≤ length c.take_message.new.work
inside c =
    let room = c.requires.0 in
    omega (arith, net_inside (room_laid room), net_areas room, c.take_message.ensures.changed.long)

pub take_message-requires : goal.take_message-requires
take_message-requires c =
    room_laid c.requires.0

pub returns-then-take_message : goal.returns-then-take_message
returns-then-take_message c =
    let a = c.args in
    record {
      told = λ k.
          spare_one_lem a.s (word_in a.a a.work.now) k a.room a.message.now
          (sym (spare_told c.requires.0 (taken (goal.at.returns-then-take_message c).After-take_message)) ∙ c.if-take_message.true) refl;
      kept = (taken (goal.at.returns-then-take_message c).After-take_message).changed;
    }

pub overflow_add-end : goal.overflow_add-end
overflow_add-end c =
    omega (arith, inside (goal.at.overflow_add-end c).After-take_message)

pub slice_bounds-read_net-end : goal.slice_bounds-read_net-end
slice_bounds-read_net-end c =
    inside (goal.at.slice_bounds-read_net-end c).After-take_message

pub returns : goal.returns
returns c =
    let a = c.args in
    let room = c.requires.0 in
    record {
      told = λ k.
          spare_none a.s (word_in a.a a.work.now) k a.room a.message.now c.read_net.result
          (sym (spare_told room (taken (goal.at.returns c).After-take_message)) ∙ c.if-take_message.false)
          (net_lent c.take_message.new.work room ∙ net_told room (taken (goal.at.returns c).After-take_message)) c.read_net.ensures;
      kept = (taken (goal.at.returns c).After-take_message).changed;
    }
