-- What the operations on terms, known and unknown, have for values.
use Rattle.std.proofs.Common.{◌≡◌, ℕ, ◌+◌, ◌-◌, ◌*◌, ◌%◌, ◌^◌, ◌<◌, Bool, true, false, cond, leb, Option, Some, None, sym, ap, ap₂, subst, ◌∙◌, arith}
use Rattle.std.proofs.Math.Nat.{mod-eq_of_lt}
use Rattle.std.specs.Option.{option_or}
use Rattle.bits_core.specs.declared.width.Width.{Width}
use Rattle.bits_core.specs.declared.width.Width.TheVariants.{W8, W16, W32, W64}
use Rattle.bits_core.specs.LowBits.{cut_of, sext_of}
use Rattle.number_laws.specs.LowBitLaws.{SextLaws}
use Rattle.sym_terms.specs.declared.kinds.Sym.{Sym}
use Rattle.sym_terms.specs.declared.kinds.Fit.{Fit}
use Rattle.sym_terms.specs.declared.kinds.Fit.TheVariants.{Zx8, Zx16, Zx32, Sx8, Sx16, Sx32}
use Rattle.sym_terms.specs.declared.kinds.Pair.{Pair}
use Rattle.sym_terms.specs.Numbers.{fit_number, pair_number}
use Rattle.sym_terms.specs.Plain.{PlainSum, sum, none, single_atom, symbol, IsSymbol}
use Rattle.sym_terms.specs.Value.{Valuation, value_of_symbol}
use Rattle.sym_terms.specs.Nodes.{nodes}
use Rattle.sym_terms.specs.Normal.{plus, minus, times, fit, pair, within_node_limit}
use Rattle.term_laws.specs.Laws.{NormalLaws, ValueLaws}
use Rattle.step_rules.specs.Terms.{number, apply, apply_both, zeros_term, sign_term, cut_term, sext_term}
use Rattle.forest_meaning.specs.Holds.{Means, Tells}

-- another number that is the same
pub means_as : (u : Valuation) (t : PlainSum) (m n : ℕ) → m ≡ n → Means u t m → Means u t n
means_as u t m n e h = record { normal = h.normal; value = h.value ∙ e }

pub tells_as : (u : Valuation) (t : Option PlainSum) (m n : ℕ) → m ≡ n → Tells u t m → Tells u t n
tells_as u None m n e h = tt
tells_as u (Some t) m n e h = means_as u t m n e h

-- the first of two that is known
pub tells_or : (u : Valuation) (a b : Option PlainSum) (n : ℕ) → Tells u a n → Tells u b n → Tells u (option_or a b) n
tells_or u None b n h k = k
tells_or u (Some a) b n h k = h

within_by : (u : Valuation) (b : Bool) (t : PlainSum) (n : ℕ) → Means u t n → Tells u (cond b (Some t) None) n
within_by u true t n h = h
within_by u false t n h = tt

tells_within : (u : Valuation) (t : PlainSum) (n : ℕ) → Means u t n → Tells u (within_node_limit t) n
unfolding within_node_limit
tells_within u t n h = within_by u (leb (nodes t) 32) t n h

-- an operation on known terms lifted to terms that may be unknown
pub tells_one : (u : Valuation) (f : PlainSum → PlainSum) (a : Option PlainSum) (x y : ℕ)
    → ((t : PlainSum) → Means u t x → Means u (f t) y) → Tells u a x → Tells u (apply f a) y
tells_one u f None x y k h = tt
tells_one u f (Some t) x y k h = tells_within u (f t) y (k t h)

pub tells_both : (u : Valuation) (f : PlainSum → PlainSum → PlainSum) (a b : Option PlainSum) (x y z : ℕ)
    → ((s t : PlainSum) → Means u s x → Means u t y → Means u (f s t) z) → Tells u a x → Tells u b y → Tells u (apply_both f a b) z
tells_both u f None b x y z k h j = tt
tells_both u f (Some s) b x y z k h j = tells_one u (f s) b y z (λ t m. k s t h m) j

module _ (u : Valuation) (normal : NormalLaws) (values : ValueLaws u) where
  pub means_below : (t : PlainSum) (n : ℕ) → Means u t n → n < 2 ^ 64
  means_below t n h = subst (λ x. x < 2 ^ 64) h.value (values.below t)

  pub means_number : (n : ℕ) → n < 2 ^ 64 → Means u (number n) n
  means_number n h = record { normal = (h, tt); value = values.constants n h }

  pub means_symbol : (s : Sym) → IsSymbol s → Means u (single_atom (symbol s)) (value_of_symbol u s)
  means_symbol s h = record { normal = normal.symbols s h; value = values.symbols s h }

  pub means_plus : (a b : PlainSum) (x y : ℕ) → Means u a x → Means u b y → Means u (plus a b) ((x + y) % 2 ^ 64)
  means_plus a b x y h k = record {
    normal = normal.sums a 1 b h.normal k.normal;
    value = values.sums a b ∙ ap₂ (λ x y. (x + y) % 2 ^ 64) h.value k.value;
  }

  pub means_minus : (a b : PlainSum) (x y : ℕ) → Means u a x → Means u b y → Means u (minus a b) ((x + (2 ^ 64 - y)) % 2 ^ 64)
  means_minus a b x y h k = record {
    normal = normal.sums a (2 ^ 64 - 1) b h.normal k.normal;
    value = values.differences a b ∙ ap₂ (λ x y. (x + (2 ^ 64 - y)) % 2 ^ 64) h.value k.value;
  }

  pub means_times : (m : ℕ) (a : PlainSum) (x : ℕ) → Means u a x → Means u (times m a) (m * x % 2 ^ 64)
  means_times m a x h = record {
    normal = normal.sums (sum 0 none) m a (omega arith, tt) h.normal;
    value = values.multiples m a ∙ ap (λ x. m * x % 2 ^ 64) h.value;
  }

  pub means_fit : (f : Fit) (a : PlainSum) (x : ℕ) → Means u a x → Means u (fit f a) (fit_number f x)
  means_fit f a x h = record {
    normal = normal.fits f a h.normal;
    value = values.fits f a h.normal ∙ ap (fit_number f) h.value;
  }

  pub means_pair : (p : Pair) (a b : PlainSum) (x y : ℕ) → Means u a x → Means u b y → Means u (pair p a b) (pair_number p x y)
  means_pair p a b x y h k = record {
    normal = normal.pairs p a b h.normal k.normal;
    value = values.pairs p a b h.normal k.normal ∙ ap₂ (pair_number p) h.value k.value;
  }

  pub means_zeros : (w : Width) (a : PlainSum) (x : ℕ) → Means u a x → Means u (zeros_term w a) (cut_of w x)
  means_zeros W8 a x h = means_fit Zx8 a x h
  means_zeros W16 a x h = means_fit Zx16 a x h
  means_zeros W32 a x h = means_fit Zx32 a x h
  means_zeros W64 a x h = means_as u a x (cut_of W64 x) (sym (mod-eq_of_lt (means_below a x h))) h

  pub means_sign : SextLaws → (w : Width) (a : PlainSum) (x : ℕ) → Means u a x → Means u (sign_term w a) (sext_of w x)
  means_sign sext W8 a x h = means_fit Sx8 a x h
  means_sign sext W16 a x h = means_fit Sx16 a x h
  means_sign sext W32 a x h = means_fit Sx32 a x h
  means_sign sext W64 a x h = means_as u a x (sext_of W64 x) (sym (sext.whole x (means_below a x h))) h

  -- the low bits of a term that may be unknown
  pub tells_cut : (w : Width) (t : Option PlainSum) (n : ℕ) → Tells u t n → Tells u (cut_term w t) (cut_of w n)
  tells_cut w t n h = tells_one u (zeros_term w) t n (cut_of w n) (λ a. means_zeros w a n) h

  pub tells_signed : SextLaws → (w : Width) (t : Option PlainSum) (n : ℕ) → Tells u t n → Tells u (sext_term w t) (sext_of w n)
  tells_signed sext w t n h = tells_one u (sign_term w) t n (sext_of w n) (λ a. means_sign sext w a n) h
