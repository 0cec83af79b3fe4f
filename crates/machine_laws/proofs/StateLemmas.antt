-- A step from a state in range leads to one.
use Rattle.std.proofs.Common.{◌≡◌, ℕ, zero, suc, ◌/◌, ◌%◌, ◌^◌, ◌<◌, ◌≤◌, List, [], ◌∷◌, get_or, set, ◌∙◌, arith, length-set}
use Rattle.std.proofs.Math.Nat.{pow-succ'}
use Rattle.bits_core.specs.declared.flags.Flags.{Flags}
use Rattle.bits_core.specs.declared.width.Width.{Width}
use Rattle.bits_core.specs.declared.width.Width.TheVariants.{W8, W16, W32, W64}
use Rattle.bits_core.specs.Width.{bytes_of}
use Rattle.x86_instr.specs.declared.instr.Place.{Place}
use Rattle.x86_instr.specs.declared.instr.Operand.{Operand}
use Rattle.x86_instr.specs.declared.instr.Operand.TheVariants as operand
use Rattle.x86_machine.specs.Memory.{address_plus, put_at, loaded, stored}
use Rattle.x86_machine.specs.State.{State, IsState, reg, with_reg, with_flags, with_rip, with_bytes}
use Rattle.x86_machine.specs.Access.{address, merged, merged_high, read, write}

-- a register after a write in the list
set_below : (xs : List ℕ) (r v k : ℕ) → v < 2 ^ 64 → ((j : ℕ) → get_or xs j 0 < 2 ^ 64) → get_or (set xs r v) k 0 < 2 ^ 64
set_below [] r v k small h = h k
set_below (x ∷ xs) zero v zero small h = small
set_below (x ∷ xs) zero v (suc k) small h = h (suc k)
set_below (x ∷ xs) (suc r) v zero small h = h zero
set_below (x ∷ xs) (suc r) v (suc k) small h = set_below xs r v k small (λ j. h (suc j))

-- an immediate fits 64 bits
abbrev pub FitsQuad : Operand → Type 0
FitsQuad (operand.Imm n) = n < 2 ^ 64
FitsQuad _ = Unit {0}

pub state_reg : (s : State) (r v : ℕ) → v < 2 ^ 64 → IsState s → IsState (with_reg s r v)
unfolding with_reg
state_reg s r v small h = record {
  count = length-set s.regs r v ∙ h.count;
  regs = λ k. set_below s.regs r v k small h.regs;
  rip = h.rip;
  fs_base = h.fs_base;
  bytes = h.bytes;
  outside = h.outside;
}

pub state_flags : (s : State) (f : Flags) → IsState s → IsState (with_flags s f)
unfolding with_flags
state_flags s f h = record { count = h.count; regs = h.regs; rip = h.rip; fs_base = h.fs_base; bytes = h.bytes; outside = h.outside }

pub state_rip : (s : State) (at : ℕ) → at < 2 ^ 64 → IsState s → IsState (with_rip s at)
unfolding with_rip
state_rip s at small h = record { count = h.count; regs = h.regs; rip = small; fs_base = h.fs_base; bytes = h.bytes; outside = h.outside }

put_below : (m : ℕ → ℕ) (at b x : ℕ) → b < 256 → m x < 256 → put_at m at b x < 256
put_below m at b x small h = grind arith

put_outside : (m : ℕ → ℕ) (at b x : ℕ) → at < 2 ^ 64 → 2 ^ 64 ≤ x → m x ≡ 0 → put_at m at b x ≡ 0
put_outside m at b x small far h = grind arith

stored_below : (m : ℕ → ℕ) (n at v : ℕ) → ((x : ℕ) → m x < 256) → (x : ℕ) → stored m n at v x < 256
unfolding stored
stored_below m zero at v h x = h x
stored_below m (suc n) at v h x = stored_below (put_at m at (v % 256)) n (address_plus 1 at) (v / 256) (λ y. put_below m at (v % 256) y (omega arith) (h y)) x

stored_outside : (m : ℕ → ℕ) (n at v : ℕ) → at < 2 ^ 64 → ((x : ℕ) → 2 ^ 64 ≤ x → m x ≡ 0) → (x : ℕ) → 2 ^ 64 ≤ x → stored m n at v x ≡ 0
unfolding stored
stored_outside m zero at v small h x far = h x far
stored_outside m (suc n) at v small h x far = stored_outside (put_at m at (v % 256)) n (address_plus 1 at) (v / 256) (omega arith) (λ y far'. put_outside m at (v % 256) y small far' (h y far')) x far

pub state_bytes : (s : State) (n at v : ℕ) → at < 2 ^ 64 → IsState s → IsState (with_bytes s n at v)
unfolding with_bytes
state_bytes s n at v small h = record {
  count = h.count;
  regs = h.regs;
  rip = h.rip;
  fs_base = h.fs_base;
  bytes = stored_below s.memory n at v h.bytes;
  outside = stored_outside s.memory n at v small h.outside;
}

merged_below : (w : Width) (old v : ℕ) → old < 2 ^ 64 → merged w old v < 2 ^ 64
unfolding merged
merged_below W8 old v h = omega arith
merged_below W16 old v h = omega arith
merged_below W32 old v h = omega arith
merged_below W64 old v h = omega arith

merged_high_below : (old v : ℕ) → old < 2 ^ 64 → merged_high old v < 2 ^ 64
unfolding merged_high
merged_high_below old v h = omega arith

pub reg_below : (s : State) (r : ℕ) → IsState s → reg s r < 2 ^ 64
unfolding reg
reg_below s r h = h.regs r

pub address_below : (s : State) (p : Place) → address s p < 2 ^ 64
unfolding address
address_below s p = omega arith

pub state_write : (s : State) (w : Width) (o : Operand) (v : ℕ) → IsState s → IsState (write s w o v)
unfolding write
state_write s w operand.None v h = h
state_write s w (operand.Reg r) v h = state_reg s r _ (merged_below w (reg s r) v (reg_below s r h)) h
state_write s w (operand.High r) v h = state_reg s r _ (merged_high_below (reg s r) v (reg_below s r h)) h
state_write s w (operand.Imm n) v h = h
state_write s w (operand.Mem p) v h = state_bytes s (bytes_of w) (address s p) v (address_below s p) h

loaded_below : (m : ℕ → ℕ) (n at : ℕ) → ((x : ℕ) → m x < 256) → loaded m n at < 256 ^ n
unfolding loaded
loaded_below m zero at h = omega arith
loaded_below m (suc n) at h = omega (arith, pow-succ' 256 n, h at, loaded_below m n (address_plus 1 at) h)

-- eight loaded bytes fit 64 bits
pub quad_below : (s : State) (at : ℕ) → IsState s → loaded s.memory 8 at < 2 ^ 64
quad_below s at h = loaded_below s.memory 8 at h.bytes

-- so does an operand of 64 bits
pub read_below : (s : State) (o : Operand) → FitsQuad o → IsState s → read s W64 o < 2 ^ 64
unfolding read
read_below s operand.None f h = omega arith
read_below s (operand.Reg r) f h = omega arith
read_below s (operand.High r) f h = omega arith
read_below s (operand.Imm n) f h = f
read_below s (operand.Mem p) f h = quad_below s (address s p) h
