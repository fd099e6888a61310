use mathlib.Core.Path.{◌∙◌}
use native.Mathlib.Omega.{arith}
use Rattle.tables.proofs.Cores.{row_cores}
use Rattle.lister.proofs.Text.{line_none, line_all}
use Rattle.lister.proofs.push_cores_line.Goals as goal
use Rattle.lister.proofs.push_cores_line.Goals.{in_default, in-len1-up+else-loop-core-test}

pub returns-clause-appended : goal.returns-clause-appended
returns-clause-appended c =
    let row = c.core_row-row in
    let cores = c.cores.ensures ∙ row_cores c.args.version c.requires.1 c.requires.2 row.result row.ensures in
    let text = c.args.text.now.bytes in
    let all = c.push-2.new.self.bytes in
    let newline = c.push-2.ensures.ascii (omega arith) in
    elim c.if-cores-lt1.branch [
      | in_default w ↦ rw cores at (line_none c.cores.result.now text all w.in_default.len_below (rw w.text-is at newline))
      | in-len1-up+else-loop-core-test w ↦
          rw cores
          at (line_all c.cores.result.now text w.push_decimal.new.text.bytes w.loop-core.text.bytes all w.loop-core.core-index
          w.in-len1-up.len_at_least
          w.loop-core-test.false
          w.push_decimal.ensures.appended
          w.loop-core.invariant.bytes
          (rw w.text-is at newline))
    ]
