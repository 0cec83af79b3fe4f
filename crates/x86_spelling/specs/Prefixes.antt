-- The prefix bytes, and before which opcodes they may stand (Intel SDM volume 2, 2.1.1).
use Rattle.std.specs.Prelude.{ℕ, Bool, ◌&&◌, ◌||◌, ◌==◌, nat_lt, nat_le, List, count_by}
use Rattle.x86_spelling.specs.declared.encoding.PrefixRule.{PrefixRule}
use Rattle.x86_spelling.specs.declared.encoding.PrefixRule.TheVariants as rule

-- 26, 2E, 36, 3E: segments that have no effect in 64-bit mode
abbrev pub is_plain : ℕ → Bool
is_plain b = (b == 0x26) || ((b == 0x2e) || ((b == 0x36) || (b == 0x3e)))

-- the segment FS
abbrev pub fs_override : ℕ
fs_override = 0x64

-- the other operand size
abbrev pub operand_size : ℕ
operand_size = 0x66

-- the other address size
abbrev pub address_size : ℕ
address_size = 0x67

-- REPNE, also BND
abbrev pub repne : ℕ
repne = 0xf2

-- REP
abbrev pub rep : ℕ
rep = 0xf3

-- the prefix bytes (SDM volume 2, 2.1.1), but for F0 and 65, before which nothing is spelled
abbrev pub is_prefix : ℕ → Bool
is_prefix b =
    is_plain b
    || ((b == fs_override)
    || ((b == operand_size) || ((b == address_size) || ((b == repne) || (b == rep)))))

-- how often a byte stands in a list
abbrev pub count : ℕ → List ℕ → ℕ
count b bytes = count_by (λ x. x == b) bytes

-- how often each of these may stand before an opcode
pub record Limits : Type 0 where
  pub segment : ℕ
  pub size : ℕ
  pub address : ℕ
  pub repne : ℕ
  pub rep : ℕ

-- how often, by the rule
abbrev pub limits : PrefixRule → Limits
limits rule.Segment = record { segment = 1; size = 0; address = 0; repne = 0; rep = 0 }
limits rule.SizeSegment = record { segment = 1; size = 1; address = 0; repne = 0; rep = 0 }
limits rule.Size = record { segment = 0; size = 1; address = 0; repne = 0; rep = 0 }
limits rule.Sizes = record { segment = 0; size = 15; address = 0; repne = 0; rep = 0 }
limits rule.Branch = record { segment = 1; size = 0; address = 0; repne = 1; rep = 0 }
limits rule.Call = record { segment = 0; size = 0; address = 1; repne = 1; rep = 0 }
limits rule.Return = record { segment = 0; size = 0; address = 0; repne = 1; rep = 1 }

-- FS stands only before a memory operand, and without the prefixes that have no effect
abbrev pub allows_segment : PrefixRule → Bool → List ℕ → Bool
allows_segment r memory prefixes =
    (count fs_override prefixes == 0)
    || (memory
    && (nat_le (count fs_override prefixes) (limits r).segment
    && (count_by is_plain prefixes == 0)))

-- the prefixes may stand before an opcode of the rule, with or without a memory operand
abbrev pub allows : PrefixRule → Bool → List ℕ → Bool
allows r memory prefixes =
    nat_le (count operand_size prefixes) (limits r).size
    && (nat_le (count address_size prefixes) (limits r).address
    && (nat_le (count repne prefixes) (limits r).repne
    && (nat_le (count rep prefixes) (limits r).rep
    && allows_segment r memory prefixes)))

-- the prefix of the other operand size stands there
abbrev pub is_small : List ℕ → Bool
is_small prefixes = nat_lt 0 (count operand_size prefixes)
