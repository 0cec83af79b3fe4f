use Rattle.std.proofs.Common.{◌≡◌, ◌<◌, ◌++◌, false, length, codes, sym, ◌∙◌, arith}
use Rattle.std.specs.Prelude.{if◌then◌else◌}
use Rattle.graph_lines.specs.Line.{is_entry_value}
use Rattle.graph_lines.specs.Text.{given_text}
use Rattle.graph_text.proofs.WriteLemmas.{own_step, other_step}
use Rattle.graph_text.proofs.write.put_registers.Goals as goal
use Rattle.graph_text.proofs.write.put_registers.Goals.{then-not-is_entry_value+in_ok-put_register, else-not-is_entry_value}

pub loop-register-preserved : goal.loop-register-preserved
loop-register-preserved c =
    let n = c.loop-register.register in
    let v = c.index-regs-register.result in
    let first = c.loop-register.first in
    let out = c.loop-register.out.items in
    let h : n < length c.args.regs.now = omega arith in
    elim c.if-not-is_entry_value.branch [
      | then-not-is_entry_value+in_ok-put_register w ↦
          let other : is_entry_value (n, v) ≡ false = cc in
          let written : c.if-not-is_entry_value.out.items ≡ out ++ ((if first then codes "r " else codes " ") ++ given_text (n, v)) = cc (w.in_ok-put_register.ensures) in
          other_step n c.args.regs.now v first c.if-not-is_entry_value.first out c.if-not-is_entry_value.out.items _ h c.index-regs-register.is other c.loop-register.invariant written w.first-is
      | else-not-is_entry_value w ↦
          let same : c.if-not-is_entry_value.out.items ≡ out = cc in
          own_step n c.args.regs.now v first c.if-not-is_entry_value.first out c.if-not-is_entry_value.out.items _ h c.index-regs-register.is (sym c.is_entry_value.ensures ∙ w.if-not-is_entry_value.false) c.loop-register.invariant same w.first-is
    ]
