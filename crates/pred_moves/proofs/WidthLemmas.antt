-- The bytes of a width are the size of a region and of a table's entry; and its greatest number.
use Rattle.std.proofs.Common.{◌≡◌, ◌-◌, ◌^◌, ℕ, refl, sym, ap, subst, ◌∙◌}
use Rattle.std.specs.Prelude.{IsTrue}
use Rattle.bits_core.specs.declared.width.Width.{Width}
use Rattle.bits_core.specs.declared.width.Width.TheVariants.{W8, W16, W32, W64}
use Rattle.bits_core.specs.Width.{bits_of, bytes_of}
use Rattle.bits_core.specs.LowBits.{cut_of}
use Rattle.mem_forest.specs.Shape.{is_size}
use Rattle.jump_tables.specs.Table.{is_entry_size, width_of}

-- what is so of each width is so of one
of_each : (P : Width → Type 0) → P W8 × P W16 × P W32 × P W64 → (w : Width) → P w
of_each P each w = elim w as P [ W8 ↦ each.0 | W16 ↦ each.1 | W32 ↦ each.2 | W64 ↦ each.3 ]

pub size_of_width : (n : ℕ) (w : Width) → n ≡ bytes_of w → IsTrue (is_size n)
size_of_width n w e = subst (λ n. IsTrue (is_size n)) (sym e) (of_each (λ w. IsTrue (is_size (bytes_of w))) (refl, refl, refl, refl) w)

pub entry_of_width : (n : ℕ) (w : Width) → n ≡ bytes_of w → IsTrue (is_entry_size n)
entry_of_width n w e = subst (λ n. IsTrue (is_entry_size n)) (sym e) (of_each (λ w. IsTrue (is_entry_size (bytes_of w))) (refl, refl, refl, refl) w)

pub width_of_bytes : (n : ℕ) (w : Width) → n ≡ bytes_of w → width_of n ≡ w
width_of_bytes n w e = ap width_of e ∙ of_each (λ w. width_of (bytes_of w) ≡ w) (refl, refl, refl, refl) w

pub most_of_width : (w : Width) → cut_of w (2 ^ 64 - 1) ≡ 2 ^ bits_of w - 1
most_of_width = of_each (λ w. cut_of w (2 ^ 64 - 1) ≡ 2 ^ bits_of w - 1) (refl, refl, refl, refl)
