-- `legality::front_tests` meets its contract: the tests 4 and 5 behind those that need no buffer. Assumes nothing.
use mathlib.Core.Path.{sym, ap, ◌∙◌}
use Prim.Native.Nat.{◌/◌}
use lib.ListN.{length}
use native.Mathlib.Omega.{arith}
use Rattle.capacity.proofs.Bounds.{area_small}
use Rattle.std.proofs.lemmas.Result.{err_from_is_err_and}
use Rattle.calls.specs.Refusals.{told}
use Rattle.legality.proofs.Refusals.{sizes_are, range_passed, front_first, not_the_matrix, no_room_lem, front_none}
use Rattle.legality.proofs.front_tests.Goals as goal

pub returns-in_err-s : goal.returns-in_err-s
returns-in_err-s c =
    let a = c.args in
    let p = err_from_is_err_and c.from_residual.result c.from_residual.ensures.1 in
    rw (p.1, p.2)
    (sym (ap told c.in_err-s.was)
    ∙ sym (front_first a.p a.list.now c.size_tests.ensures (ap told c.in_err-s.was) a.modules a.work))

pub overflow_mul-s : goal.overflow_mul-s
overflow_mul-s c =
    let a = c.args in
    let said = c.size_tests.ensures in
    let legal = ap told c.in_ok-s.was in
    let s = c.in_ok-s.s in
    let range = range_passed a.p a.list.now said legal in
    omega (arith, area_small a.p (length a.list.now / 3) s range (sizes_are a.p a.list.now said legal))

pub returns-then-modules-s : goal.returns-then-modules-s
returns-then-modules-s c =
    let a = c.args in
    sym (not_the_matrix a.p a.list.now c.size_tests.ensures (ap told c.in_ok-s.was) a.modules a.work
    c.if-modules-s.true)

pub returns-then-work-s : goal.returns-then-work-s
returns-then-work-s c =
    let a = c.args in
    sym (no_room_lem a.p a.list.now c.size_tests.ensures (ap told c.in_ok-s.was) a.modules a.work
    c.if-modules-s.false c.if-work-s.true)

pub returns : goal.returns
returns c =
    let a = c.args in
    sym (front_none a.p a.list.now c.size_tests.ensures (ap told c.in_ok-s.was) a.modules a.work
    c.if-modules-s.false c.if-work-s.false)
