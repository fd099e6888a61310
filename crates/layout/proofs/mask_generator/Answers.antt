-- `layout::mask_generator` meets its contract. Assumes nothing.
use native.Mathlib.Omega.{arith}
use Rattle.layout.proofs.Masks.{two_factors, three_factors}
use Rattle.layout.proofs.mask_generator.Goals as goal

pub overflow_mul-result : goal.overflow_mul-result
overflow_mul-result c =
    let a = c.args in
    omega (arith, two_factors a.x a.x c.requires.0 c.requires.0)

pub overflow_mul-result-in-6 : goal.overflow_mul-result-in-6
overflow_mul-result-in-6 c =
    let a = c.args in
    omega (arith, three_factors a.x a.x a.y c.requires.0 c.requires.0 c.requires.1)

pub overflow_mul-result-in-6-3 : goal.overflow_mul-result-in-6-3
overflow_mul-result-in-6-3 c =
    let a = c.args in
    omega (arith, three_factors 2 a.x a.x (omega arith) c.requires.0 c.requires.0)

pub overflow_add-result-in-6 : goal.overflow_add-result-in-6
overflow_add-result-in-6 c =
    let a = c.args in
    omega (arith, three_factors 2 a.x a.x (omega arith) c.requires.0 c.requires.0)

pub overflow_mul-result-in-7 : goal.overflow_mul-result-in-7
overflow_mul-result-in-7 c =
    let a = c.args in
    omega (arith, two_factors a.x a.y c.requires.0 c.requires.1)

pub overflow_mul-result-in-7-2 : goal.overflow_mul-result-in-7-2
overflow_mul-result-in-7-2 c =
    let a = c.args in
    omega (arith, three_factors a.x a.y a.y c.requires.0 c.requires.1 c.requires.1)

pub overflow_mul-result-in-7-4 : goal.overflow_mul-result-in-7-4
overflow_mul-result-in-7-4 c =
    let a = c.args in
    omega (arith, two_factors a.y a.y c.requires.1 c.requires.1)

pub overflow_add-result-in-7 : goal.overflow_add-result-in-7
overflow_add-result-in-7 c =
    let a = c.args in
    omega (arith, two_factors a.y a.y c.requires.1 c.requires.1)
