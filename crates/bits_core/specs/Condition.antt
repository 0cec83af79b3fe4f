-- What the condition codes of jcc, setcc and cmovcc test (Intel SDM volume 2, appendix B.1.4.7,
-- condition test field, and the instructions Jcc, SETcc, CMOVcc).
use Rattle.std.specs.Prelude.{ℕ, ◌/◌, ◌%◌, ◌==◌, if◌then◌else◌, Bool, not, ◌||◌}
use Rattle.bits_core.specs.declared.flags.Flags.{Flags}

-- two flags differ
abbrev pub differ : Bool → Bool → Bool
differ a b = if a then not b else b

-- the test that the upper three bits of a code name: O, B, E, BE, S, P (not here), L, LE
abbrev pub test_of : ℕ → Flags → Bool
test_of row f =
    if row == 0 then f.over
    else (if row == 1 then f.carry
    else (if row == 2 then f.zero
    else (if row == 3 then f.carry || f.zero
    else (if row == 4 then f.sign
    else (if row == 6 then differ f.sign f.over
    else f.zero || differ f.sign f.over)))))

-- whether a condition holds: an odd code is the opposite of the even one before it
abbrev pub condition_of : ℕ → Flags → Bool
condition_of cc f = if cc % 2 == 1 then not (test_of (cc / 2) f) else test_of (cc / 2) f
