-- `stream_reader::read_net` meets its contract: tests 11 to 14 in their order. Assumes nothing.
use Prim.Native.Nat.{suc}
use mathlib.Core.Path.{◌≡◌, sym}
use native.Mathlib.Omega.{arith}
use lib.Seq.{length-take-le}
use Rattle.std.specs.Prelude.{Some, None}
use Rattle.std.proofs.lemmas.Result.{err_from_is_err_and}
use Rattle.symbology.specs.Net.{up_to_last_one}
use Rattle.laws.proofs.Net.{up_to_le}
use Rattle.calls.specs.declared.Refusal.TheVariants.{NoEndMark}
use Rattle.stream_reader.proofs.Answer.{Counted, all_zero, bad_code_lem, no_room_lem, message_read}
use Rattle.stream_reader.proofs.read_net.Goals as goal
use Rattle.stream_reader.proofs.read_net.Goals.{In_ok-mark, After-read_stream-first}

-- the end mark
marked : (c : In_ok-mark) → up_to_last_one c.args.net.now ≡ suc c.in_ok-mark.mark
marked c =
    let found : c.end_mark.result ≡ Some c.in_ok-mark.mark = grind arith in
    rw found at c.end_mark.ensures

-- what the first pass left
passed : (c : After-read_stream-first)
    → Counted c.args.net.now c.in_ok-mark.mark c.read_stream-first.new.out c.read_stream-first.result
passed c = record { marked = marked (goal.at.After-read_stream-first c).In_ok-mark; first = c.read_stream-first.ensures }

pub returns-in_err-mark : goal.returns-in_err-mark
returns-in_err-mark c =
    let a = c.args in
    let p = err_from_is_err_and c.from_residual.result c.from_residual.ensures.1 in
    let missed : c.end_mark.result ≡ None = grind arith in
    let none : up_to_last_one a.net.now ≡ 0 = rw missed at c.end_mark.ensures in
    let which : c.in_err-mark.field-0.0 ≡ NoEndMark = grind arith in
    rw (p.1, p.2, which) (all_zero a.net.now a.room a.message.now none)

pub slice_bounds-stream-end : goal.slice_bounds-stream-end
slice_bounds-stream-end c =
    let net = c.args.net.now in
    sym (length-take-le c.in_ok-mark.mark net (omega (arith, marked c, up_to_le net)))

pub returns-in_err-first : goal.returns-in_err-first
returns-in_err-first c =
    let a = c.args in
    let p = err_from_is_err_and c.from_residual-in_err-first.result c.from_residual-in_err-first.ensures.1 in
    let first = passed (goal.at.returns-in_err-first c).After-read_stream-first in
    rw (p.1, p.2) (bad_code_lem a.net.now a.room a.message.now first c.in_err-first.was)

pub returns-then-room-first : goal.returns-then-room-first
returns-then-room-first c =
    let a = c.args in
    no_room_lem a.net.now a.room a.message.now
    (passed (goal.at.returns-then-room-first c).After-read_stream-first) c.in_ok-first.was c.if-room-first.true

pub returns : goal.returns
returns c =
    let a = c.args in
    message_read a.net.now a.room a.message.now
    (passed (goal.at.returns c).After-read_stream-first) c.in_ok-first.was c.if-room-first.false c.read_stream-second.ensures
