-- A named value has 64 bits, so the valuation stays in range.
use Rattle.std.proofs.Common.{ℕ, zero, suc, ◌%◌, ◌^◌, ◌<◌, eqb, Option, Some, None, arith}
use Rattle.x86_machine.specs.Moves.{below_top}
use Rattle.std.proofs.Math.Nat.{mod-lt, pow-succ'}
use Rattle.std.proofs.lemmas.Bool.{cond_both}
use Rattle.std.specs.Prelude.{IfSome}
use Rattle.bits_core.specs.declared.width.Width.{Width}
use Rattle.bits_core.specs.declared.width.Width.TheVariants.{W8, W16, W32, W64}
use Rattle.bits_core.specs.Width.{bits_of, bytes_of}
use Rattle.sym_terms.specs.Value.{Valuation, IsInRange}
use Rattle.x86_instr.specs.declared.instr.Operand.{Operand}
use Rattle.x86_instr.specs.declared.instr.Instr.{Instr}
use Rattle.x86_instr.specs.Kinds.{Kinds, dst_kinds, src_kinds}
use Rattle.x86_instr.specs.Fits.{InForm, IsOperand, is_place}
use Rattle.x86_machine.specs.Memory.{loaded, address_plus}
use Rattle.x86_machine.specs.State.{State, IsState, reg}
use Rattle.x86_machine.specs.Access.{address, address_of, read}
use Rattle.x86_machine.specs.Named.{Name, Loaded, Register, Stored, Nothing, names, value_of, named_value, store_address}
use Rattle.value_laws.proofs.Scene.{renamed}
use Rattle.x86_instr.specs.declared.instr.Operand.TheVariants as operand

loaded_below : (m : ℕ → ℕ) (n at : ℕ) → ((x : ℕ) → m x < 256) → loaded m n at < 256 ^ n
unfolding loaded
loaded_below m zero at h = omega arith
loaded_below m (suc n) at h = omega (arith, pow-succ' 256 n, h at, loaded_below m n (address_plus 1 at) h)

module _ (s : State) (is : IsState s) where
  place_below : (w : Width) (at : ℕ) → loaded s.memory (bytes_of w) at < 2 ^ 64
  place_below W8 at = omega (arith, loaded_below s.memory 1 at is.bytes)
  place_below W16 at = omega (arith, loaded_below s.memory 2 at is.bytes)
  place_below W32 at = omega (arith, loaded_below s.memory 4 at is.bytes)
  place_below W64 at = loaded_below s.memory 8 at is.bytes

  cut_quad : (w : Width) (x : ℕ) → x % 2 ^ bits_of w < 2 ^ 64
  cut_quad W8 x = omega arith
  cut_quad W16 x = omega arith
  cut_quad W32 x = omega arith
  cut_quad W64 x = omega arith

  number_quad : (w : Width) (n : ℕ) → n < 2 ^ bits_of w → n < 2 ^ 64
  number_quad W8 n h = omega arith
  number_quad W16 n h = omega arith
  number_quad W32 n h = omega arith
  number_quad W64 n h = h

  read_quad : (k : Kinds) (w : Width) (o : Operand) → IsOperand k w o → read s w o < 2 ^ 64
  unfolding read
  read_quad k w operand.None f = omega arith
  read_quad k w (operand.Reg r) f = cut_quad w (reg s r)
  read_quad k w (operand.High r) f = omega arith
  read_quad k w (operand.Imm n) f = number_quad w n f.1
  read_quad k w (operand.Mem pl) f = place_below w (address s pl)

  address_quad : (o : Operand) → address_of s o < 2 ^ 64
  unfolding address_of address
  address_quad operand.None = omega arith
  address_quad (operand.Reg r) = omega arith
  address_quad (operand.High r) = omega arith
  address_quad (operand.Imm n) = omega arith
  address_quad (operand.Mem pl) = omega arith

  store_quad : (i : Instr) → store_address s i < 2 ^ 64
  store_quad i =
      cond_both (is_place i.dst) (address_of s i.dst) (below_top s) (λ n. n < 2 ^ 64) (λ _. address_quad i.dst)
      (λ _. mod-lt _ (omega arith))

  register_quad : (t : State) (r : ℕ) → IsState t → reg t r < 2 ^ 64
  unfolding reg
  register_quad t r it = it.regs r

  value_quad : (n : Name) (i : Instr) (t : State) → InForm i → IsState t → IfSome (value_of n s i t) (λ m. m < 2 ^ 64)
  value_quad Loaded i t form it =
      cond_both (is_place i.dst) (read s i.width i.dst) (read s i.src_width i.src) (λ m. m < 2 ^ 64)
      (λ _. read_quad (dst_kinds i.op) i.width i.dst form.dst) (λ _. read_quad (src_kinds i.op) i.src_width i.src form.src)
  value_quad (Register r) i t form it = register_quad t r it
  value_quad Stored i t form it = store_quad i
  value_quad Nothing i t form it = tt

  pub renamed_range : (u : Valuation) (a : ℕ) (n : Option ℕ) → IfSome n (λ m. m < 2 ^ 64) → IsInRange u → IsInRange (renamed u a n)
  renamed_range u a None h range = range
  renamed_range u a (Some n) h range = record {
    entries = range.entries;
    return_address = range.return_address;
    fs_base = range.fs_base;
    names = λ b. cond_both (eqb b a) n (u.named b) (λ m. m < 2 ^ 64) (λ _. h) (λ _. range.names b);
  }

  pub range_after : (i : Instr) (t : State) (u : Valuation) → InForm i → IsState t → IsInRange u → IsInRange (renamed u i.addr (named_value s i t))
  range_after i t u form it range = renamed_range u i.addr (named_value s i t) (value_quad (names i) i t form it) range
