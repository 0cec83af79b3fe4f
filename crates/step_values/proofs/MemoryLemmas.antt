-- When memory stays as it is, and that a width is the size of a region.
use Rattle.std.proofs.Common.{◌≡◌, ℕ, Bool, true, false, List, Option, Some, None, refl, sym, subst}
use Rattle.std.specs.Prelude.{IsTrue, is_some}
use Rattle.bits_core.specs.declared.width.Width.{Width}
use Rattle.bits_core.specs.declared.width.Width.TheVariants.{W8, W16, W32, W64}
use Rattle.bits_core.specs.Width.{bytes_of}
use Rattle.sym_terms.specs.declared.kinds.Sym.{Sym}
use Rattle.sym_terms.specs.Plain.{PlainSum}
use Rattle.memory_regions.specs.declared.region.Relation.{Relation}
use Rattle.mem_forest.specs.Plain.{PlainForest}
use Rattle.mem_forest.specs.Shape.{is_size, IsForest}
use Rattle.mem_forest.specs.Search.{value_at}
use Rattle.mem_forest.specs.Load.{load, named_unless}
use Rattle.mem_forest.specs.Forget.{forget}
use Rattle.mem_forest.specs.Mentioned.{forest_mentions}
use Rattle.mem_forest.proofs.MentionLemmas.{forget_same}

of_width : (w : Width) → IsTrue (is_size (bytes_of w))
of_width W8 = refl
of_width W16 = refl
of_width W32 = refl
of_width W64 = refl

pub is_size_of : (n : ℕ) (w : Width) → n ≡ bytes_of w → IsTrue (is_size n)
is_size_of n w e = let P : ℕ → Type 0 = λ n. IsTrue (is_size n) in subst P (sym e) (of_width w)

unless_known : (o : Option PlainSum) (rel : PlainSum → ℕ → Relation) (at : PlainSum) (a : ℕ) (name : Option PlainSum) (f : PlainForest) → is_some o ≡ true → f ≡ named_unless o rel at a name f
unless_known (Some t) rel at a name f e = refl
unless_known None rel at a name f e = absurd (cc)

pub load_known : (rel : PlainSum → ℕ → Relation) (at : PlainSum) (a : ℕ) (name : Option PlainSum) (f : PlainForest) → is_some (value_at at a f) ≡ true → f ≡ load rel at a name f
load_known rel at a name f e = unless_known (value_at at a f) rel at a name f e

unless_unnamed : (o : Option PlainSum) (rel : PlainSum → ℕ → Relation) (at : PlainSum) (a : ℕ) (f : PlainForest) → f ≡ named_unless o rel at a None f
unless_unnamed (Some t) rel at a f = refl
unless_unnamed None rel at a f = refl

pub load_unnamed : (rel : PlainSum → ℕ → Relation) (at : PlainSum) (a : ℕ) (f : PlainForest) → f ≡ load rel at a None f
load_unnamed rel at a f = unless_unnamed (value_at at a f) rel at a f

pub unmentioned_same : (s : Sym) (f : PlainForest) → forest_mentions s f ≡ false → IsForest f → f ≡ forget s f
unmentioned_same s f e h = sym (forget_same s f e h)
