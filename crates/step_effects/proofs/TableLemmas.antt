-- A multiple of a term is no larger; and a width is the size of an entry.
use Rattle.std.proofs.Common.{◌≡◌, ℕ, Some, refl, sym, ap, subst, ◌∙◌, arith}
use Rattle.std.specs.Prelude.{IsTrue}
use Rattle.bits_core.specs.declared.width.Width.{Width}
use Rattle.bits_core.specs.declared.width.Width.TheVariants.{W8, W16, W32, W64}
use Rattle.bits_core.specs.Width.{bytes_of}
use Rattle.sym_terms.specs.Plain.{PlainSum, sum, none}
use Rattle.sym_terms.specs.Normal.{times, within_node_limit, IsTerm}
use Rattle.sym_terms.proofs.SumLemmas.{plus_times_nodes}
use Rattle.step_values.proofs.TermLemmas.{within_itself}
use Rattle.jump_tables.specs.Table.{is_entry_size, width_of}

pub times_within : (k : ℕ) (a : PlainSum) → IsTerm a → within_node_limit (times k a) ≡ Some (times k a)
times_within k a h = sym (within_itself (times k a) (omega (arith, plus_times_nodes (sum 0 none) k a, h.small)))

entry_size : (w : Width) → IsTrue (is_entry_size (bytes_of w))
entry_size W8 = refl
entry_size W16 = refl
entry_size W32 = refl
entry_size W64 = refl

pub entry_size_of : (n : ℕ) (w : Width) → n ≡ bytes_of w → IsTrue (is_entry_size n)
entry_size_of n w e = let P : ℕ → Type 0 = λ n. IsTrue (is_entry_size n) in subst P (sym e) (entry_size w)

sized_width : (w : Width) → width_of (bytes_of w) ≡ w
sized_width W8 = refl
sized_width W16 = refl
sized_width W32 = refl
sized_width W64 = refl

pub width_again : (n : ℕ) (w : Width) → n ≡ bytes_of w → width_of n ≡ w
width_again n w e = ap width_of e ∙ sized_width w
