-- What a name stands for, asked of registers and of stores alone.
use Rattle.std.specs.Prelude.{ℕ, Bool, true, false, Option, Some, None}
use Rattle.x86_machine.specs.Named.{Name, Loaded, Register, Stored, Nothing}

-- the register whose value is named; None where another value is, or none
abbrev pub named_register : Name → Option ℕ
named_register Loaded = None
named_register (Register r) = Some r
named_register Stored = None
named_register Nothing = None

-- whether the address of the store is named
abbrev pub names_store : Name → Bool
names_store Loaded = false
names_store (Register r) = false
names_store Stored = true
names_store Nothing = false
