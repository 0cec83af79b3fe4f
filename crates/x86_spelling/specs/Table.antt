-- The opcode map, in the order of the opcodes (Intel SDM volume 2, appendix A and chapters 3 to 5).
use Rattle.std.specs.Prelude.{List, [], ◌∷◌, ◌++◌}
use Rattle.bits_core.specs.declared.width.Width.TheVariants.{W8, W16, W32}
use Rattle.x86_instr.specs.declared.instr.Op.TheVariants as op
use Rattle.x86_spelling.specs.declared.encoding.Form.TheVariants as form
use Rattle.x86_spelling.specs.declared.encoding.Size.TheVariants as size
use Rattle.x86_spelling.specs.declared.encoding.ImmSize.TheVariants as imm
use Rattle.x86_spelling.specs.declared.encoding.PrefixRule.TheVariants as rule
use Rattle.x86_spelling.specs.declared.encoding.Row.{Row}
use Rattle.x86_spelling.specs.RowForms.{row, with_digit, spanning, with_rex_b, with_rex_w, with_source, with_prefixes, escaped, with_conditions, alu_rows, group1, group2}

-- the one-byte opcodes below 80
abbrev pub low_rows : List Row
low_rows =
    alu_rows 0x00 op.Add ++ (alu_rows 0x08 op.Or ++ (alu_rows 0x10 op.Adc
    ++ (alu_rows 0x18 op.Sbb ++ (alu_rows 0x20 op.And ++ (alu_rows 0x28 op.Sub
    ++ (alu_rows 0x30 op.Xor ++ (alu_rows 0x38 op.Cmp
    ++ (spanning 8 (row 0x50 op.Push form.OpReg size.Quad imm.Absent)
    ∷ spanning 8 (row 0x58 op.Pop form.OpReg size.Quad imm.Absent)
    ∷ with_source W32 (with_rex_w 1 (row 0x63 op.Movsx form.RegRm size.Quad imm.Absent))
    ∷ row 0x68 op.Push form.ImmOnly size.Quad imm.Double
    ∷ row 0x69 op.Imul3 form.RegRmImm size.V imm.Z
    ∷ row 0x6a op.Push form.ImmOnly size.Quad imm.Byte
    ∷ row 0x6b op.Imul3 form.RegRmImm size.V imm.Byte
    ∷ with_conditions (row 0x70 op.Jcc form.Offset size.Quad imm.Byte)))))))))

-- the one-byte opcodes from 80 to BF
abbrev pub middle_rows : List Row
middle_rows =
    group1 0x80 size.Byte imm.Byte ++ (group1 0x81 size.V imm.Z ++ (group1 0x83 size.V imm.Byte
    ++ (row 0x84 op.Test form.RmReg size.Byte imm.Absent
    ∷ row 0x85 op.Test form.RmReg size.V imm.Absent
    ∷ row 0x86 op.Xchg form.RmReg size.Byte imm.Absent
    ∷ row 0x87 op.Xchg form.RmReg size.V imm.Absent
    ∷ row 0x88 op.Mov form.RmReg size.Byte imm.Absent
    ∷ row 0x89 op.Mov form.RmReg size.V imm.Absent
    ∷ row 0x8a op.Mov form.RegRm size.Byte imm.Absent
    ∷ row 0x8b op.Mov form.RegRm size.V imm.Absent
    ∷ with_prefixes rule.Size (row 0x8d op.Lea form.RegRm size.V imm.Absent)
    ∷ with_prefixes rule.Sizes (with_rex_b 0 (row 0x90 op.Nop form.Nothing size.Quad imm.Absent))
    ∷ with_rex_b 1 (row 0x90 op.Xchg form.AccOp size.V imm.Absent)
    ∷ spanning 7 (row 0x91 op.Xchg form.AccOp size.V imm.Absent)
    ∷ row 0x98 op.Widen form.Nothing size.V imm.Absent
    ∷ row 0x99 op.Signs form.Nothing size.V imm.Absent
    ∷ row 0xa8 op.Test form.AccImm size.Byte imm.Byte
    ∷ row 0xa9 op.Test form.AccImm size.V imm.Z
    ∷ spanning 8 (row 0xb0 op.Mov form.OpImm size.Byte imm.Byte)
    ∷ spanning 8 (row 0xb8 op.Mov form.OpImm size.V imm.V)
    ∷ [])))

-- the one-byte opcodes from C0 on
abbrev pub high_rows : List Row
high_rows =
    group2 0xc0 form.RmCount size.Byte imm.Count ++ (group2 0xc1 form.RmCount size.V imm.Count
    ++ (with_prefixes rule.Return (row 0xc3 op.Ret form.Nothing size.Quad imm.Absent)
    ∷ with_digit 0 (row 0xc6 op.Mov form.RmImm size.Byte imm.Byte)
    ∷ with_digit 0 (row 0xc7 op.Mov form.RmImm size.V imm.Z)
    ∷ row 0xc9 op.Leave form.Nothing size.Quad imm.Absent
    ∷ row 0xcc op.Int3 form.Nothing size.Quad imm.Absent
    ∷ (group2 0xd0 form.RmOne size.Byte imm.Absent ++ (group2 0xd1 form.RmOne size.V imm.Absent
    ++ (group2 0xd2 form.RmCl size.Byte imm.Absent ++ (group2 0xd3 form.RmCl size.V imm.Absent
    ++ (with_prefixes rule.Call (row 0xe8 op.Call form.Offset size.Quad imm.Double)
    ∷ with_prefixes rule.Branch (row 0xe9 op.Jmp form.Offset size.Quad imm.Double)
    ∷ row 0xeb op.Jmp form.Offset size.Quad imm.Byte
    ∷ row 0xf4 op.Hlt form.Nothing size.Quad imm.Absent
    ∷ with_digit 0 (row 0xf6 op.Test form.RmImm size.Byte imm.Byte)
    ∷ with_digit 2 (row 0xf6 op.Not form.Rm size.Byte imm.Absent)
    ∷ with_digit 3 (row 0xf6 op.Neg form.Rm size.Byte imm.Absent)
    ∷ with_digit 0 (row 0xf7 op.Test form.RmImm size.V imm.Z)
    ∷ with_digit 2 (row 0xf7 op.Not form.Rm size.V imm.Absent)
    ∷ with_digit 3 (row 0xf7 op.Neg form.Rm size.V imm.Absent)
    ∷ with_digit 4 (row 0xf7 op.Mul form.Rm size.V imm.Absent)
    ∷ with_digit 5 (row 0xf7 op.Imul1 form.Rm size.V imm.Absent)
    ∷ with_digit 6 (row 0xf7 op.Div form.Rm size.V imm.Absent)
    ∷ with_digit 7 (row 0xf7 op.Idiv form.Rm size.V imm.Absent)
    ∷ with_digit 0 (row 0xfe op.Inc form.Rm size.Byte imm.Absent)
    ∷ with_digit 1 (row 0xfe op.Dec form.Rm size.Byte imm.Absent)
    ∷ with_digit 0 (row 0xff op.Inc form.Rm size.V imm.Absent)
    ∷ with_digit 1 (row 0xff op.Dec form.Rm size.V imm.Absent)
    ∷ with_digit 2 (with_prefixes rule.Branch (row 0xff op.Call form.Rm size.Quad imm.Absent))
    ∷ with_digit 4 (with_prefixes rule.Branch (row 0xff op.Jmp form.Rm size.Quad imm.Absent))
    ∷ with_digit 6 (row 0xff op.Push form.Rm size.Quad imm.Absent)
    ∷ [])))))))

-- the opcodes after 0F
abbrev pub escaped_rows : List Row
escaped_rows =
    escaped (row 0x05 op.Syscall form.Nothing size.Quad imm.Absent)
    ∷ escaped (row 0x0b op.Ud2 form.Nothing size.Quad imm.Absent)
    ∷ with_prefixes rule.Sizes
    (with_digit 0 (escaped (row 0x1f op.Nop form.RmIgnored size.Quad imm.Absent)))
    ∷ (with_conditions (escaped (row 0x40 op.Cmov form.RegRm size.V imm.Absent))
    ++ (with_conditions
    (with_prefixes rule.Branch (escaped (row 0x80 op.Jcc form.Offset size.Quad imm.Double)))
    ++ (with_conditions (escaped (row 0x90 op.Setcc form.Rm size.Byte imm.Absent))
    ++ (escaped (row 0xaf op.Imul2 form.RegRm size.V imm.Absent)
    ∷ with_source W8 (escaped (row 0xb6 op.Movzx form.RegRm size.V imm.Absent))
    ∷ with_source W16 (escaped (row 0xb7 op.Movzx form.RegRm size.V imm.Absent))
    ∷ with_source W8 (escaped (row 0xbe op.Movsx form.RegRm size.V imm.Absent))
    ∷ with_source W16 (escaped (row 0xbf op.Movsx form.RegRm size.V imm.Absent))
    ∷ spanning 8 (escaped (row 0xc8 op.Bswap form.OpReg size.Y imm.Absent))
    ∷ []))))

-- all rows
abbrev pub table : List Row
table = low_rows ++ (middle_rows ++ (high_rows ++ escaped_rows))
